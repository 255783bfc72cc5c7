-- The rows of the refusal table, one arc and one cost after another. Assumes nothing.
-- ---- arcs
use Prim.Native.Nat.{ℕ, zero, suc, ◌+◌, ◌*◌, ◌≤◌, ◌<◌}
use native.Mathlib.Omega.{arith}
use native.Mathlib.Numerals.{add-one}
use mathlib.Core.Path.{◌≡◌, refl, ◌∙◌, ap}
use mathlib.Core.Bool.{true, false, not}
use mathlib.Core.List.{List}
use lib.ListN.{length, get_or, drop, drop_of_length-le}
use lib.Seq.{drop-cons, get_or-drop}
use Rattle.image.specs.Outcome.{sound, fault, row, ◌then◌}
use Rattle.image.specs.Rows.{pairs, arc_fault, arcs_fault, is_cost, costs_fault}
use Rattle.image.proofs.OutcomeLaws.{then_fault, then_next}

pub length_pairs : (m : ℕ) (l : List ℕ) → length (pairs m l) ≡ m
unfolding pairs
length_pairs zero l = refl
length_pairs (suc m) l = ap suc (length_pairs m (drop 2 l))

pub pairs_at : (m : ℕ) (l : List ℕ) (i : ℕ) → i < m → get_or (pairs m l) i (0, 0) ≡ (get_or l (2 * i) 0, get_or l (2 * i + 1) 0)
unfolding pairs
pairs_at zero l i h = absurd (omega arith)
pairs_at (suc m) l zero h = refl
pairs_at (suc m) l (suc i) h =
    let e : 2 * suc i ≡ 2 + 2 * i = omega arith in
    let f : 2 + 2 * i + 1 ≡ 2 + (2 * i + 1) = omega arith in
    pairs_at m (drop 2 l) i (omega arith) ∙ rw (get_or-drop 2 l (2 * i) 0, get_or-drop 2 l (2 * i + 1) 0, e, f)

-- what arc i comes to, of the arcs from i on: a fault of its own is theirs, and after a sound one come those from i + 1 on
module _ (n : ℕ) (last : ℕ × ℕ) (arcs : List (ℕ × ℕ)) (i : ℕ) where
  arcs_step : i < length arcs → arcs_fault n last i (drop i arcs) ≡ (arc_fault n last i (get_or arcs i (0, 0)) then arcs_fault n (get_or arcs i (0, 0)) (i + 1) (drop (i + 1) arcs))
  unfolding arcs_fault
  arcs_step h = rw (add-one, drop-cons arcs i (0, 0) h)

  pub arc_found : {a : ℕ × ℕ} {number place : ℕ} → i < length arcs → get_or arcs i (0, 0) ≡ a → arc_fault n last i a ≡ fault number place → arcs_fault n last i (drop i arcs) ≡ fault number place
  arc_found h at e = arcs_step h ∙ then_fault _ (rw at e)

  pub arc_passed : {a : ℕ × ℕ} → i < length arcs → get_or arcs i (0, 0) ≡ a → arc_fault n last i a ≡ sound → arcs_fault n last i (drop i arcs) ≡ arcs_fault n a (i + 1) (drop (i + 1) arcs)
  arc_passed h at e = arcs_step h ∙ rw at (then_next _ e)

  pub arcs_end : length arcs ≤ i → arcs_fault n last i (drop i arcs) ≡ sound
  unfolding arcs_fault
  arcs_end h = rw (drop_of_length-le arcs h)

-- ---- costs, in the same way
module _ (e : ℕ) (costs : List ℕ) (i : ℕ) where
  costs_step : i < length costs → costs_fault e i (drop i costs) ≡ (row 9 i (not (is_cost e (get_or costs i 0))) then costs_fault e (i + 1) (drop (i + 1) costs))
  unfolding costs_fault
  costs_step h = rw (add-one, drop-cons costs i 0 h)

  pub cost_found : i < length costs → is_cost e (get_or costs i 0) ≡ false → costs_fault e i (drop i costs) ≡ fault 9 i
  unfolding row ◌then◌
  cost_found h forbidden = costs_step h ∙ rw forbidden refl

  pub cost_passed : i < length costs → is_cost e (get_or costs i 0) ≡ true → costs_fault e i (drop i costs) ≡ costs_fault e (i + 1) (drop (i + 1) costs)
  unfolding row ◌then◌
  cost_passed h allowed = costs_step h ∙ rw allowed refl

  pub costs_end : length costs ≤ i → costs_fault e i (drop i costs) ≡ sound
  unfolding costs_fault
  costs_end h = rw (drop_of_length-le costs h)
