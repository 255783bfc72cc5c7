-- Rows one after the other, and the tests of one column. Assumes nothing.
use Prim.Native.Nat.{ℕ, suc, ◌+◌, ◌*◌, ◌-◌, ◌≤◌, ◌<◌}
use native.Mathlib.Omega.{arith}
use native.Mathlib.Nat.{mul-le-mul_right, suc-mul}
use mathlib.Core.Path.{◌≡◌, refl, ap}
use mathlib.Core.Bool.{true}
use mathlib.Core.List.{List}
use lib.Dec.{eqb, leb}
use lib.ListN.{get_or}
use borrow.Author.Tests.{eq-eqb, ne_eqb}
use Rattle.terms.specs.Network.{mark}
use Rattle.terms.proofs.ListLaws.{or_right}
use Rattle.descent.specs.Rows.{stops, Low}
use Rattle.labels.specs.Labels.{far}

-- place i of row u, of k rows of m
pub row_in : (u k m i : ℕ) → u < k → i < m → u * m + i < k * m
row_in u k m i h l = omega (arith, mul-le-mul_right {m = suc u} {n = k} m h, suc-mul u m)

-- ---- one column
module _ (cost label best sum figure : ℕ) where
  pub stops_closed : cost ≡ mark → stops cost label best sum figure ≡ true
  unfolding stops
  stops_closed e = rw (eq-eqb cost mark e) refl

  pub stops_far : label ≡ far → stops cost label best sum figure ≡ true
  unfolding stops
  stops_far e = rw (eq-eqb label far e) (or_right (eqb cost mark) refl)

  pub stops_open : (cost ≡ mark → ⊥) → (label ≡ far → ⊥) → stops cost label best sum figure ≡ leb figure (sum + cost + label - best)
  unfolding stops
  stops_open n m = rw (ne_eqb cost mark n, ne_eqb label far m) refl

-- ---- a value over the columns from 1, at the index from 0
pub value_at : (sums bests : List ℕ) (u : ℕ) → get_or sums u 0 - get_or bests u 0 ≡ get_or sums (u + 1 - 1) 0 - get_or bests (u + 1 - 1) 0
value_at sums bests u = ap (λ (w : ℕ). get_or sums w 0 - get_or bests w 0) (omega arith)

-- ---- sums over fewer arcs
pub low_more : {d e : ℕ} {sums : List ℕ} → d ≤ e → Low d sums → Low e sums
low_more l low = record { long = low.long; low = λ u. omega (arith, low.low u) }
