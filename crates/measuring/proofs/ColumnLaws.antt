-- The network that two slices hold: its columns are the graphs of the star with their costs. Assumes nothing.
use Prim.Native.Nat.{ℕ, suc, ◌+◌, ◌*◌, ◌-◌, ◌≤◌}
use native.Mathlib.Omega.{arith}
use native.Mathlib.Nat.{suc-mul, mul-le-mul, mul-le-mul_right}
use mathlib.Core.Path.{◌≡◌, refl, sym, ◌∙◌, ap, ap₂, subst}
use mathlib.Core.List.{List, [], ◌∷◌}
use lib.ListN.{length, take, drop, length-drop}
use lib.Seq.{take-length, length-take-le}
use Rattle.terms.specs.Lists.{◌∈◌}
use Rattle.terms.specs.Network.{mark, weigh, cost_column, column}
use Rattle.terms.proofs.ListLaws.{take_mem, mem_place, drop_mem}
use Rattle.terms.proofs.NetworkLaws.{column_unmarked}
use Rattle.terms.proofs.ColumnLaws.{length_cut, cut_at}
use Rattle.star.specs.Arcs.{graph, Arcs}
use Rattle.star.specs.Layout.{tails_of, heads_of, graph_of, Holds}
use Rattle.measuring.specs.Columns.{arc_pairs, network, column_costs}
use Rattle.measuring.specs.Networks.{network_of, costs_in, IsColumn}
use Rattle.measuring.specs.declared.columns.Columns.{Columns}

-- ---- columns
weigh_pairs : (ts hs ws : List ℕ) → weigh (arc_pairs ts hs) ws ≡ graph ts hs ws
unfolding weigh arc_pairs graph
weigh_pairs [] hs ws = refl
weigh_pairs (t ∷ ts) [] ws = refl
weigh_pairs (t ∷ ts) (h ∷ hs) [] = refl
weigh_pairs (t ∷ ts) (h ∷ hs) (w ∷ ws) = ap (λ g. record { tail = t; head = h; weight = w } ∷ g) (weigh_pairs ts hs ws)

pairs_long : (ts hs : List ℕ) → length hs ≡ length ts → length (arc_pairs ts hs) ≡ length ts
unfolding arc_pairs
pairs_long [] hs e = refl
pairs_long (t ∷ ts) [] e = absurd (omega arith)
pairs_long (t ∷ ts) (h ∷ hs) e = ap suc (pairs_long ts hs (omega arith))

module _ (n m k : ℕ) (s costs : List ℕ) where
  pub length_columns : length (network n m k s costs).columns ≡ k
  unfolding network
  length_columns = length_cut k m costs

  own_costs : (u : ℕ) → 1 ≤ u → u ≤ k → cost_column (network n m k s costs) u ≡ column_costs m costs u
  unfolding cost_column network
  own_costs u lo hi = cut_at k m costs (u - 1) (omega arith)

  own_arcs : (network n m k s costs).arcs ≡ arc_pairs (tails_of m s) (heads_of m s)
  unfolding network
  own_arcs = refl

-- ---- the part of the costs that holds a column
-- it starts at the column, and has its costs
pub column_part : (m : ℕ) (costs : List ℕ) (u : ℕ) → take ((u - 1) * m + m - (u - 1) * m) (drop ((u - 1) * m) costs) ≡ column_costs m costs u
column_part m costs u = let e : (u - 1) * m + m - (u - 1) * m ≡ m = omega arith in rw e

-- it lies inside, and has a cost for each arc
column_end : (m u : ℕ) {k : ℕ} (costs : List ℕ) → length costs ≡ k * m → 1 ≤ u → u ≤ k → (u - 1) * m + m ≤ length costs
column_end m u {k} costs long from upto = omega (arith, long, suc-mul (u - 1) m, mul-le-mul_right {m = suc (u - 1)} {n = k} m (omega arith))

pub part_full : {k : ℕ} (m u : ℕ) (costs : List ℕ) → length costs ≡ k * m → 1 ≤ u → u ≤ k → length (column_costs m costs u) ≡ m
part_full m u costs long from upto = length-take-le m (drop ((u - 1) * m) costs) (omega (arith, length-drop ((u - 1) * m) costs, column_end m u costs long from upto))

-- the costs are not many
pub part_inside : {k m u : ℕ} (costs : List ℕ) → k ≤ 8 → m ≤ 1000 → length costs ≡ k * m → 1 ≤ u → u ≤ k → ((u - 1) * m + m ≤ length costs) × (length costs ≤ 8000)
part_inside {m} {u} costs columns_to few long from upto = (column_end m u costs long from upto, omega (arith, long, mul-le-mul columns_to few))

-- ---- one of the columns
module _ (c : Columns) where
  pub first_column : IsColumn c 1
  first_column = record { from = omega arith; upto = c.held.columns_from }

  module _ {u : ℕ} (C : IsColumn c u) where
    -- no cost is the mark, so the column has all arcs
    unmarked : (w : ℕ) → w ∈ cost_column (network_of c) u → w ≡ mark → ⊥
    unmarked w h e =
        let here = drop_mem ((u - 1) * c.arcs) c.costs.now (take_mem c.arcs (drop ((u - 1) * c.arcs) c.costs.now) (subst (λ l. w ∈ l) (own_costs c.nodes c.arcs c.count c.star.now c.costs.now u C.from C.upto) h)) in
        let i = mem_place (length c.costs.now) c.costs.now 0 {x = w} (rw (take-length c.costs.now) here) in
        omega (arith, c.held.costs_to i.0 i.1, i.3)

    pub held_column : column (network_of c) u ≡ graph (tails_of c.arcs c.star.now) (heads_of c.arcs c.star.now) (costs_in c u)
    held_column =
        column_unmarked (network_of c) u unmarked
        ∙ ap₂ weigh (own_arcs c.nodes c.arcs c.count c.star.now c.costs.now) (own_costs c.nodes c.arcs c.count c.star.now c.costs.now u C.from C.upto)
        ∙ weigh_pairs (tails_of c.arcs c.star.now) (heads_of c.arcs c.star.now) (costs_in c u)

    pub column_full : length (costs_in c u) ≡ c.arcs
    column_full = part_full c.arcs u c.costs.now c.held.costs_long C.from C.upto

    pub column_holds : Holds c.nodes c.star.now (costs_in c u)
    column_holds = c.held.graphs u C.from C.upto

    pub column_arcs : Arcs c.nodes (tails_of c.arcs c.star.now) (heads_of c.arcs c.star.now) (costs_in c u)
    column_arcs = subst (λ x. Arcs c.nodes (tails_of x c.star.now) (heads_of x c.star.now) (costs_in c u)) column_full column_holds.arcs

    pub column_graph : column (network_of c) u ≡ graph_of c.star.now (costs_in c u)
    unfolding graph_of
    column_graph = held_column ∙ ap (λ x. graph (tails_of x c.star.now) (heads_of x c.star.now) (costs_in c u)) (sym column_full)

  pub columns_few : c.arcs ≤ 1000
  columns_few =
      let N = column_holds first_column in
      omega (arith, column_full first_column, N.arcs.weights_long, N.arcs.few)

  pub columns_nodes : c.nodes ≤ 200
  columns_nodes = (column_arcs first_column).few_nodes

  pub length_arcs : length (network_of c).arcs ≡ c.arcs
  unfolding network
  length_arcs =
      let A = column_arcs first_column in
      pairs_long (tails_of c.arcs c.star.now) (heads_of c.arcs c.star.now) A.heads_long ∙ sym A.weights_long ∙ column_full first_column

  -- the part of the costs that holds a column lies inside
  pub column_inside : {u : ℕ} → IsColumn c u → ((u - 1) * c.arcs + c.arcs ≤ length c.costs.now) × (length c.costs.now ≤ 8000)
  column_inside {u} C = part_inside c.costs.now c.held.columns_to columns_few c.held.costs_long C.from C.upto
