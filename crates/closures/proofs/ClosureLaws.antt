-- A settled answer stands when an arc is closed that its route does not touch, and no column's best changes. Assumes nothing.
use Prim.Native.Nat.{ℕ, suc, ◌-◌, ◌/◌, ◌≤◌, ◌<◌}
use native.Mathlib.Omega.{arith}
use mathlib.Core.Path.{◌≡◌, sym, ◌∙◌, ap, ap₂}
use mathlib.Core.Bool.{true, false, not}
use mathlib.Core.Logic.{⊎_elim}
use mathlib.Core.List.{List, map}
use lib.Dec.{eqb}
use lib.ListN.{length, get_or}
use borrow.Author.Tests.{eqb-true, eqb-false, not-true}
use Rattle.terms.specs.Lists.{numbers, index, largest}
use Rattle.terms.specs.Network.{Net, Admitted, column, linked}
use Rattle.terms.specs.Paths.{Route, OpenPath, cost}
use Rattle.terms.specs.Regret.{deviation, deviations, figure, worst, bests}
use Rattle.terms.specs.Robust.{settled, robust}
use Rattle.terms.specs.Demand3.{contest, Demand3}
use Rattle.terms.proofs.ListLaws.{split, clash, and_both, map_numbers}
use Rattle.terms.proofs.RankingLaws.{before_same}
use Rattle.terms.proofs.GraphLaws.{Part, linked_arc, arc_linked, step_linked, path_by, part_path, part_cost}
use Rattle.terms.proofs.NetworkLaws.{restricted_arc, arc_restricted, restrict_fewer, column_simple}
use Rattle.terms.proofs.OverLaws.{bests_at}
use Rattle.terms.proofs.Demand3Laws.{ranks, demand_3}
use Rattle.closures.specs.Map.{shut, turned, left, without}
use Rattle.closures.specs.Standing.{touches, alike, unmoved}
use Rattle.closures.proofs.MapLaws.{turn_other}
use Rattle.closures.proofs.WithoutLaws.{without_columns, without_nodes, without_admitted}
use Rattle.closures.proofs.TestLaws.{next_touches, alike_equal}
use Rattle.closures.proofs.StandsLaws.{Fewer, stands, settled_demand}

-- ---- fewer arcs and the same bests: each path that is left has the deviations that it had
module _ {e : ℕ} {new old : Net} (ok : Admitted e new) (ok' : Admitted e old) (parts : (u : ℕ) → Part (column new u) (column old u))
    (same_nodes : new.nodes ≡ old.nodes) (same_columns : length new.columns ≡ length old.columns)
    (r s t : ℕ) (s_lo : 1 ≤ s) (s_hi : s ≤ new.nodes) (r-lo : 1 ≤ r) (r-hi : r ≤ length new.columns) (same-bests : bests new s t ≡ bests old s t) where
  left_in : {p : Route} → OpenPath new s t p → OpenPath old s t p
  left_in q = record { in_column = λ u lo hi. part_path (parts u) (q.in_column u lo (omega arith)) }

  left_cost : {p : Route} → OpenPath new s t p → (u : ℕ) → 1 ≤ u → u ≤ length new.columns → cost (column new u) p ≡ cost (column old u) p
  left_cost q u lo hi = part_cost (parts u) (column_simple ok' u) (q.in_column u lo hi).by_arcs

  left_deviation : {p : Route} → OpenPath new s t p → (u : ℕ) → 1 ≤ u → u ≤ length new.columns → deviation new s t p u ≡ deviation old s t p u
  unfolding deviation
  left_deviation q u lo hi =
      ap₂ (λ x y. x - y) (left_cost q u lo hi)
      (sym (bests_at ok s t s_lo s_hi q u lo hi) ∙ ap (λ l. get_or l (u - 1) 0) same-bests ∙ bests_at ok' s t s_lo (omega arith) (left_in q) u lo (omega arith))

  left_deviations : {p : Route} → OpenPath new s t p → deviations new s t p ≡ deviations old s t p
  unfolding deviations
  left_deviations {p} q =
      map_numbers (deviation new s t p) (deviation old s t p) 1 (length new.columns) (λ u lo hi. left_deviation q u lo (omega arith)) ∙ ap (λ k. map (deviation old s t p) (numbers 1 k)) same_columns

  left_figure : {p : Route} → OpenPath new s t p → figure new s t p ≡ figure old s t p
  unfolding figure
  left_figure q = ap largest (left_deviations q)

  left_worst : {p : Route} → OpenPath new s t p → worst new s t p ≡ worst old s t p
  unfolding worst
  left_worst q = ap₂ (λ f l. suc (index (eqb f) l)) (left_figure q) (left_deviations q)

  fewer : Fewer (contest new r s t) (contest old r s t)
  fewer = record {
    inside = λ p q. left_in q;
    same_order = λ p q m n. before_same (column new r) (column old r) p q (left_cost m r r-lo r-hi) (left_cost n r r-lo r-hi);
    same_dev = λ p q. left_deviation q r r-lo r-hi;
    same_fig = λ p q. left_figure q;
    same_wst = λ p q. left_worst q;
  }

  -- so a settled answer stands, if its path is left; only its count may differ
  pub answer_stands : (K : ℕ) → 1 ≤ K → {p : Route} {f w n : ℕ} → robust old r s t K ≡ settled p f w n → OpenPath new s t p → (m : ℕ) × (robust new r s t K ≡ settled p f w m)
  answer_stands K K-lo e q =
      stands (contest new r s t) (contest old r s t) (ranks new r s t ok s_lo s_hi r-lo r-hi) (ranks old r s t ok' s_lo (omega arith) r-lo (omega arith)) fewer K K-lo
      (settled_demand (demand_3 old r s t ok' s_lo (omega arith) r-lo (omega arith) K K-lo) e) q (demand_3 new r s t ok s_lo s_hi r-lo r-hi K K-lo)

-- one more arc closed
module _ (net : Net) (words : List ℕ) (i : ℕ) (fits : i / 64 < length words) (was_open : shut words i ≡ false) where
  fewer_open : (j : ℕ) → left (turned words i) j ≡ true → left words j ≡ true
  unfolding left
  fewer_open j h = ⊎_elim (λ e. let z : j ≡ i = eqb-true j i e in rw (z, was_open)) (λ e. rw (← turn_other words i fits j (eqb-false j i e)) h) (split (eqb j i))

  -- each other arc is left, so a route that does not touch this one is
  arc_left : (a b u : ℕ) → ((get_or net.arcs i (0, 0)).0 ≡ a → (get_or net.arcs i (0, 0)).1 ≡ b → ⊥) → linked (column (without words net) u) a b ≡ true → linked (column (without (turned words i) net) u) a b ≡ true
  unfolding without left
  arc_left a b u other l =
      let x = linked_arc (column (without words net) u) a b l in
      let k = restricted_arc (left words) net u x.1 in
      let apart : k.0 ≡ i → ⊥ = λ e. other (ap (λ j. (get_or net.arcs j (0, 0)).0) (sym e) ∙ sym k.1.tail_is ∙ x.2) (ap (λ j. (get_or net.arcs j (0, 0)).1) (sym e) ∙ sym k.1.head_is ∙ x.3) in
      ap₂ (linked (column (without (turned words i) net) u)) (sym x.2) (sym x.3) ∙ arc_linked (arc_restricted (left (turned words i)) net u k.1 (ap not (turn_other words i fits k.0 apart) ∙ k.2))

  route_left : {s t : ℕ} {p : Route} → touches (get_or net.arcs i (0, 0)) p ≡ false → OpenPath (without words net) s t p → OpenPath (without (turned words i) net) s t p
  route_left {p} free q =
      record { in_column = λ u lo hi. let old = q.in_column u lo (omega (arith, without_columns words net, without_columns (turned words i) net)) in path_by (column (without (turned words i) net) u) old (λ a b n. arc_left a b u (λ ea eb. clash (next_touches (get_or net.arcs i (0, 0)) ea eb n) free) (step_linked old.by_arcs n)) }

-- ---- the answer of the network with one more arc closed
module _ {e : ℕ} {net : Net} (ok : Admitted e net) (r s t K : ℕ) (s_lo : 1 ≤ s) (s_hi : s ≤ net.nodes) (r-lo : 1 ≤ r) (r-hi : r ≤ length net.columns) (K-lo : 1 ≤ K) where
  -- Robust's inputs hold without the closed arcs too
  start_in : (words : List ℕ) → s ≤ (without words net).nodes
  start_in words = rw (without_nodes words net) s_hi

  column_in : (words : List ℕ) → r ≤ length (without words net).columns
  column_in words = rw (without_columns words net) r-hi

  -- a full run keeps demand 3
  pub run_demand : (words : List ℕ) → Demand3 (without words net) r s t K (robust (without words net) r s t K)
  run_demand words = demand_3 (without words net) r s t (without_admitted ok words) s_lo (start_in words) r-lo (column_in words) K K-lo

  module _ (words : List ℕ) (i : ℕ) (fits : i / 64 < length words) (was_open : shut words i ≡ false) where
    parts : (u : ℕ) → Part (column (without (turned words i) net) u) (column (without words net) u)
    unfolding without
    parts u = restrict_fewer (left (turned words i)) (left words) net u (fewer_open net words i fits was_open)

    pub closure_stands : {p : Route} {f w n : ℕ} → robust (without words net) r s t K ≡ settled p f w n → unmoved net s t words (turned words i) i p ≡ true → (m : ℕ) × (robust (without (turned words i) net) r s t K ≡ settled p f w m)
    unfolding unmoved
    closure_stands {p} run h =
        let tests = and_both (not (touches (get_or net.arcs i (0, 0)) p)) (alike (bests (without words net) s t) (bests (without (turned words i) net) s t)) h in
        answer_stands (without_admitted ok (turned words i)) (without_admitted ok words) parts (without_nodes (turned words i) net ∙ sym (without_nodes words net)) (without_columns (turned words i) net ∙ sym (without_columns words net)) r s t s_lo (start_in (turned words i)) r-lo (column_in (turned words i))
        (sym (alike_equal (bests (without words net) s t) (bests (without (turned words i) net) s t) tests.1)) K K-lo run
        (route_left net words i fits was_open (not-true (touches (get_or net.arcs i (0, 0)) p) tests.0) (settled_demand (run_demand words) run).is_path)
