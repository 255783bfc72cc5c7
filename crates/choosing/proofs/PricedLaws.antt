-- Several columns: all have the same paths, a path is measured, and what it costs beyond the bests is small. Assumes nothing.
use Prim.Native.Nat.{ℕ, ◌+◌, ◌-◌, ◌*◌, ◌≤◌, ◌<◌}
use native.Mathlib.Omega.{arith}
use mathlib.Core.Path.{◌≡◌, sym, ◌∙◌, ap, ap₂, subst}
use mathlib.Core.List.Memᴰ
use mathlib.Core.List.{List, [], ◌∷◌, map, tail}
use lib.ListN.{length, drop, get_or}
use lib.Seq.{get_or-take, get_or-drop}
use Rattle.terms.specs.Lists.{◌∈◌, last, numbers}
use Rattle.terms.specs.Network.{Graph, Net, column}
use Rattle.terms.specs.Paths.{Route, ByArcs, Path, cost}
use Rattle.terms.specs.Ranking.{ranked}
use Rattle.terms.specs.Regret.{over, figure_over}
use Rattle.terms.specs.Robust.{answer, robust_over}
use Rattle.terms.proofs.ListLaws.{largest_le, numbers_mem}
use Rattle.terms.proofs.PathLaws.{Within, of_path, at_most_nodes}
use Rattle.star.specs.Layout.{tails_of}
use Rattle.star.proofs.ArcLaws.{graph_within, path_cost_le}
use Rattle.measuring.specs.Columns.{network}
use Rattle.measuring.specs.Networks.{network_of, costs_in, IsColumn}
use Rattle.measuring.specs.declared.columns.Columns.{Columns}
use Rattle.measuring.proofs.BestLaws.{path_any_column}
use Rattle.measuring.proofs.ColumnLaws.{length_columns, held_column, column_full, column_inside, column_arcs, columns_nodes, first_column}
use Rattle.choosing.specs.declared.contest.Contest.{Contest}
use Rattle.choosing.specs.Given.{Priced}
use Rattle.choosing.specs.Contests.{graph_in, ranked_in, low_in, deviation_in, figure_in, worst_in, answer_in}

-- a path between two nodes has two at least
two_nodes : {g : Graph} {s t : ℕ} {p : Route} → (s ≡ t → ⊥) → Path g s t p → 2 ≤ length p
unfolding last
two_nodes {s} {t} {p} apart r = long p r.from_start r.to_goal
  where
    long : (q : Route) → q ≡ s ∷ tail q → last s q ≡ t → 2 ≤ length q
    long [] e z = absurd (omega (arith, ap length e))
    long (x ∷ []) e z = let h : x ≡ s = cc in absurd (apart (sym h ∙ z))
    long (x ∷ y ∷ q) e z = omega arith

module _ (c : Columns) where
  abbrev net : Net
  net = network_of c

  -- ---- one column
  module _ {u : ℕ} (C : IsColumn c u) where
    light : (i : ℕ) → i < length (tails_of c.arcs c.star.now) → get_or (costs_in c u) i 0 ≤ 1000000
    light i h =
        let l : i < c.arcs = omega (arith, (column_arcs c C).weights_long, column_full c C) in
        let e = get_or-take c.arcs (drop ((u - 1) * c.arcs) c.costs.now) i 0 l ∙ get_or-drop ((u - 1) * c.arcs) c.costs.now i 0 in
        rw e (c.held.costs_to ((u - 1) * c.arcs + i) (omega (arith, column_inside c C)))

    pub cost_to : {s t : ℕ} {p : Route} → Path (column (network_of c) u) s t p → cost (column (network_of c) u) p ≤ 199000000
    cost_to r = rw (held_column c C) (path_cost_le (column_arcs c C) 1000000 light (rw (held_column c C) at r))

  -- ---- what a path costs beyond the bests is small
  pub figure_to : (bests : List ℕ) {s t : ℕ} (p : Route) → Path (column (network_of c) 1) s t p → figure_over (network_of c) bests p ≤ 199000000
  unfolding figure_over over
  figure_to bests p r = largest_le 199000000 (map beyond (numbers 1 (length net.columns))) (λ y k. small (Memᴰ.of_map beyond (numbers 1 (length net.columns)) k))
    where
      beyond : ℕ → ℕ
      beyond u = cost (column net u) p - get_or bests (u - 1) 0

      small : {y : ℕ} → (u : ℕ) × (u ∈ numbers 1 (length net.columns)) × (beyond u ≡ y) → y ≤ 199000000
      small (u, k, e) =
          let b = numbers_mem 1 (length net.columns) k in
          let C : IsColumn c u = record { from = b.0; upto = omega (arith, length_columns c.nodes c.arcs c.count c.star.now c.costs.now) } in
          omega (arith, e, cost_to C (path_any_column c (first_column c) C r))

  -- ---- a path can be measured
  module _ {s t : ℕ} {bests : List ℕ} (Q : Priced c s t bests) {p : Route} (from : 1 ≤ s) (upto : s ≤ c.nodes) (apart : s ≡ t → ⊥) (r : Path (column (network_of c) 1) s t p) where
    short : length p ≤ 200
    short = omega (arith, at_most_nodes (subst (Within c.nodes) (sym (held_column c (first_column c))) (graph_within (column_arcs c (first_column c)))) from upto (of_path r), columns_nodes c)

    pub measurable : ByArcs (column (network_of c) 1) p × (((2 ≤ length p) × (length p ≤ 200)) × ((u : ℕ) → 1 ≤ u → u ≤ c.count → get_or bests (u - 1) 0 ≤ cost (column (network_of c) u) p))
    measurable = (r.by_arcs, ((two_nodes apart r, short), λ u lo hi. Q.no_less u lo hi p (path_any_column c (first_column c) (record { from = lo; upto = hi }) r)))

-- ---- the paths that are ranked are column r's, so the answer is that of their list
module _ (x : Contest) where
  pub robust_is : answer_in x ≡ answer (deviation_in x) (figure_in x) (worst_in x) (ranked_in x) x.wanted
  unfolding robust_over network
  robust_is = ap₂ (λ n g. answer (λ p. cost g p - low_in x) (figure_in x) (worst_in x) (ranked n g x.query.start x.query.goal) x.wanted) (sym x.posed.nodes_are) (sym x.posed.arcs_are)

  in_own : {p : Route} → Path (graph_in x) x.query.start x.query.goal p → Path (column (network_of x.columns) x.column) x.query.start x.query.goal p
  in_own {p} q = subst (λ g. Path g x.query.start x.query.goal p) x.posed.arcs_are q

  pub column_one : {p : Route} → Path (graph_in x) x.query.start x.query.goal p → Path (column (network_of x.columns) 1) x.query.start x.query.goal p
  column_one q = path_any_column x.columns x.posed.in_column (first_column x.columns) (in_own q)

  -- and each can be measured
  pub measurable_in : {p q : Route} → q ≡ p → Path (graph_in x) x.query.start x.query.goal p
      → ByArcs (column (network_of x.columns) 1) q × (((2 ≤ length q) × (length q ≤ 200)) × ((u : ℕ) → 1 ≤ u → u ≤ x.columns.count → get_or x.bests.now (u - 1) 0 ≤ cost (column (network_of x.columns) u) q))
  measurable_in e r = measurable x.columns x.posed.priced x.query.posed.start_from (omega (arith, x.query.posed.start_to, x.posed.nodes_are)) x.query.posed.apart (subst (Path (column (network_of x.columns) 1) x.query.start x.query.goal) (sym e) (column_one r))

  -- no path costs less than the best of the column, or more than 199,000,000
  pub low_no_less : (p : Route) → Path (graph_in x) x.query.start x.query.goal p → low_in x ≤ cost (graph_in x) p
  low_no_less p q = subst (λ g. low_in x ≤ cost g p) (sym x.posed.arcs_are) (x.posed.priced.no_less x.column x.posed.in_column.from x.posed.in_column.upto p (in_own q))

  pub own_cost_to : (p : Route) → Path (graph_in x) x.query.start x.query.goal p → cost (graph_in x) p ≤ 199000000
  own_cost_to p q = subst (λ g. cost g p ≤ 199000000) (sym x.posed.arcs_are) (cost_to x.columns x.posed.in_column (in_own q))

  pub figure_in_to : (p : Route) → Path (graph_in x) x.query.start x.query.goal p → figure_in x p ≤ 199000000
  figure_in_to p q = figure_to x.columns x.bests.now p (column_one q)
