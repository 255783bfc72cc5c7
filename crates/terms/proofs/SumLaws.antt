-- A path's cost from either end, and from one of its nodes on (docs/REFERENCE.md, section 1.4). Assumes nothing.
use Prim.Native.Nat.{ℕ, ◌+◌, ◌≤◌}
use native.Mathlib.Omega.{arith}
use mathlib.Core.Path.{◌≡◌, refl, ◌∙◌}
use mathlib.Core.List.Memᴰ
use mathlib.Core.List.{List, [], ◌∷◌, ◌++◌}
use Rattle.terms.specs.Lists.{elem}
use Rattle.terms.specs.Network.{Graph, Net, Admitted, weight, column}
use Rattle.terms.specs.Paths.{Route, Path, cost_from, cost, cost_onward, cost_from_start}
use Rattle.terms.specs.Regret.{label}
use Rattle.terms.proofs.PathLaws.{Within, node_within, of_path, paths_complete, column_within}
use Rattle.terms.proofs.PrefixLaws.{tail_path, rebar}
use Rattle.terms.proofs.RegretLaws.{best_le, label_reached}

-- ---- the sum from the start is the sum from the goal
onward_is : (g : Graph) (c v : ℕ) (p : List ℕ) → cost_onward g c v p ≡ c + cost_from g v p
unfolding cost_onward cost_from
onward_is g c v [] = omega arith
onward_is g c v (h ∷ p) = onward_is g (c + weight g v h) h p ∙ omega arith

pub start_sum : (g : Graph) (p : Route) → cost_from_start g p ≡ cost g p
unfolding cost_from_start cost
start_sum g [] = refl
start_sum g (v ∷ p) = onward_is g 0 v p ∙ omega arith

-- ---- the part from a node on costs at least the node's label
module _ {n : ℕ} {g : Graph} (within : Within n g) where
  pub rest_label : {s t : ℕ} → 1 ≤ s → s ≤ n → (b : Route) (v : ℕ) (q : List ℕ) → Path g s t (b ++ v ∷ q) → label n g t v ≤ cost g (v ∷ q)
  unfolding elem
  rest_label {s} {t} lo hi b v q r =
      let at = node_within within lo hi r (Memᴰ.append_right b (Memᴰ.head refl)) in
      let rest = rebar [] (λ x m e. refl) (tail_path b (of_path r)) in
      let m = paths_complete n within at.0 at.1 rest in
      omega (arith, label_reached n g v t m, best_le n g v t m)

-- ---- both, of a path that is open in a column, which comes by its node v
pub record FarEnd (net : Net) (u t : ℕ) (b : Route) (v : ℕ) (q : List ℕ) : Type 0 where
  pub either_end : cost_from_start (column net u) (b ++ v ∷ q) ≡ cost (column net u) (b ++ v ∷ q)
  pub rest : label net.nodes (column net u) t v ≤ cost (column net u) (v ∷ q)

pub far_end : {e : ℕ} {net : Net} → Admitted e net → (u : ℕ) {s t : ℕ} → 1 ≤ s → s ≤ net.nodes → (b : Route) (v : ℕ) (q : List ℕ) → Path (column net u) s t (b ++ v ∷ q) → FarEnd net u t b v q
far_end {net} ok u lo hi b v q r = record { either_end = start_sum (column net u) (b ++ v ∷ q); rest = rest_label (column_within ok u) lo hi b v q r }
