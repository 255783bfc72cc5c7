-- The arcs of a network that are open in every column, with all columns, in slices: the network that they hold, the paths in it, and each
-- column's best. The network is an image's without the closed arcs of a map. Assumes nothing.
use Prim.Native.Nat.{ℕ, ◌+◌, ◌*◌, ◌-◌, ◌≤◌, ◌<◌}
use native.Mathlib.Omega.{arith}
use native.Mathlib.Nat.{eq-or-lt_of_le}
use mathlib.Core.Path.{◌≡◌, refl, sym, ◌∙◌, ap, ap₂, subst, subst₂}
use mathlib.Core.Logic.{⊎_elim}
use mathlib.Core.List.{List, [], ◌∷◌, map}
use lib.ListN.{length, get_or}
use lib.Seq.{take-length}
use Rattle.terms.specs.Lists.{◌∈◌}
use Rattle.terms.specs.Network.{Net, cost_column, column, restrict, common, cut, Admitted}
use Rattle.terms.specs.Paths.{Route, ByArcs, Path, OpenPath, cost}
use Rattle.terms.specs.Ranking.{ranked}
use Rattle.terms.specs.Regret.{figure, worst, figure_over, worst_over}
use Rattle.terms.specs.Regret as regret
use Rattle.terms.specs.Robust as terms
use Rattle.terms.specs.Robust.{robust}
use Rattle.terms.proofs.ColumnLaws.{cut_at}
use Rattle.terms.proofs.ListLaws.{le_or_lt, get_or_mem, mem_length, mem_place}
use Rattle.terms.proofs.PathLaws.{Within, column_within, path_listed}
use Rattle.terms.proofs.RankingLaws.{path_ranked}
use Rattle.terms.proofs.RegretLaws.{best_le}
use Rattle.terms.proofs.CommonLaws.{common_admitted, common_columns, common_nodes, common_path, path_common, common_cost, common_cost_to}
use Rattle.terms.proofs.OverLaws.{bests_at, over_figure, over_worst, robust_common}
use Rattle.image.specs.Outcome.{sound, fault}
use Rattle.image.specs.Layout.{edition, net_of}
use Rattle.closures.specs.Map.{without, closed_roads}
use Rattle.closures.proofs.WithoutLaws.{without_none, without_columns, without_nodes, without_admitted, left_count}
use Rattle.image.specs.declared.check.Sizes.{Sizes}
use Rattle.star.specs.Layout.{tails_of, heads_of, graph_of, Holds}
use Rattle.labels.specs.Labels.{far, Least}
use Rattle.loading.specs.Accepted.{Accepted, InColumn, Ends}
use Rattle.loading.specs.Loaded.{Loaded, Shared}
use Rattle.loading.proofs.RowLaws.{row_length, row_cut, row_mem}
use Rattle.loading.proofs.SelectLaws.{common_all}
use Rattle.loading.proofs.DecodeLaws.{admitted}
use Rattle.loading.proofs.LoadLaws.{loaded_least}
use Rattle.loading.proofs.ShapeLaws.{shape_holds}
use Rattle.ranking.specs.Ranking.{Problem}
use Rattle.ranking.proofs.ResultLaws.{problem_of}
use Rattle.star.proofs.ArcLaws.{graph_within}
use Rattle.star.specs.Graphs.{arcs_of}
use Rattle.star.specs.declared.graph.Graph.{Graph}
use Rattle.measuring.specs.Bests.{Joined, Labelled}
use Rattle.measuring.specs.Steps.{Measured}
use Rattle.measuring.specs.Columns.{arc_pairs, network, column_costs, HoldColumns}
use Rattle.measuring.specs.Networks.{network_of, costs_in, IsColumn}
use Rattle.measuring.specs.declared.columns.Columns.{Columns}
use Rattle.measuring.proofs.ColumnLaws.{length_columns, length_arcs, held_column, column_arcs, column_graph, first_column}
use Rattle.measuring.proofs.BestLaws.{filled_all}
use Rattle.choosing.proofs.PricedLaws.{measurable, figure_to}
use Rattle.outcomes.specs.Calls.{no_path_row}
use Rattle.outcomes.specs.Labels.{narrowed, Narrow}
use Rattle.outcomes.proofs.LabelLaws.{label_narrowed, narrow_at}
use Rattle.outcomes.proofs.ShortestLaws.{row_none, row_some}
use Rattle.network_calls.specs.Held.{Reached, Held}

net_with : (net : Net) {l : List (ℕ × ℕ)} {cs : List (List ℕ)} → l ≡ net.arcs → cs ≡ net.columns → ◌≡◌ {A = Net} (record { nodes = net.nodes; arcs = l; columns = cs }) net
net_with net e f = ap₂ (λ l cs. record { nodes = net.nodes; arcs = l; columns = cs }) e f

pairs_of : (l : List (ℕ × ℕ)) → arc_pairs (map (λ a. a.0) l) (map (λ a. a.1) l) ≡ l
unfolding arc_pairs
pairs_of [] = refl
pairs_of (a ∷ l) = ap (λ x. a ∷ x) (pairs_of l)

-- ---- an image's network without the closed arcs of a map
module _ {b : List ℕ} {sizes : Sizes} (a : Accepted b sizes) (words : List ℕ) where
  pub rest_admitted : Admitted (edition b) (without words (net_of b))
  rest_admitted = without_admitted (admitted a) words

  pub rest_columns : sizes.k ≡ length (without words (net_of b)).columns
  rest_columns = a.columns_are ∙ sym (without_columns words (net_of b))

  pub rest_nodes : (net_of b).nodes ≡ (without words (net_of b)).nodes
  rest_nodes = sym (without_nodes words (net_of b))

  pub rest_ends : {s t : ℕ} → Ends (net_of b).nodes s t → Ends (without words (net_of b)).nodes s t
  rest_ends {s} {t} h = subst (λ n. Ends n s t) rest_nodes h

  pub image_ends : {s t : ℕ} → Ends (without words (net_of b)).nodes s t → Ends (net_of b).nodes s t
  image_ends {s} {t} h = subst (λ n. Ends n s t) (sym rest_nodes) h

  -- how many arcs are left
  pub rest_arcs : {gone : ℕ} → gone ≡ closed_roads words sizes.m → length (without words (net_of b)).arcs ≡ sizes.m - gone
  rest_arcs e = omega (arith, e, left_count words (net_of b) a.arcs_are)

-- ---- slices that hold the arcs that are open in every column
module _ {e : ℕ} {net : Net} (ok₀ : Admitted e net) {n cols : ℕ} (n_is : n ≡ net.nodes) (cols_are : cols ≡ length net.columns) {m : ℕ} {star costs : List ℕ} (S : Shared net m star costs) where
  ok : Admitted e (common net)
  ok = common_admitted ok₀

  count : cols ≡ length (common net).columns
  count = cols_are ∙ sym (common_columns net)

  full : (c : List ℕ) → c ∈ (common net).columns → length c ≡ m
  full c h = ok.full c h ∙ sym S.arcs_are

  columns_same : cut cols m costs ≡ (common net).columns
  columns_same = ap₂ (λ k l. cut k m l) count S.costs_are ∙ row_cut m (common net).columns full

  arcs_same : arc_pairs (tails_of m star) (heads_of m star) ≡ (common net).arcs
  arcs_same =
      ap (λ (x : ℕ). arc_pairs (tails_of x star) (heads_of x star)) S.arcs_are
      ∙ ap₂ arc_pairs S.shape.tails_are S.shape.heads_are ∙ pairs_of (common net).arcs

  pub held_network : network n m cols star costs ≡ common net
  unfolding network common restrict
  held_network = ap (λ (x : ℕ). network x m cols star costs) n_is ∙ net_with (common net) arcs_same columns_same

  costs_long : length costs ≡ cols * m
  costs_long = ap length S.costs_are ∙ row_length m (common net).columns full ∙ ap (λ (x : ℕ). x * m) (sym count)

  own_costs : {u : ℕ} → 1 ≤ u → u ≤ cols → column_costs m costs u ≡ cost_column (common net) u
  unfolding cost_column
  own_costs {u} from upto = sym (cut_at cols m costs (u - 1) (omega arith)) ∙ ap (λ l. get_or l (u - 1) []) columns_same

  shared_graph : {u : ℕ} → 1 ≤ u → u ≤ cols → Holds n star (column_costs m costs u)
  shared_graph {u} from upto =
      let light : (w : ℕ) → w ∈ cost_column (common net) u → w ≤ 1000000 = λ w h. common_cost_to ok₀ u from (omega (arith, cols_are)) w h in
      let common_is : (common net).nodes ≡ n = common_nodes net ∙ sym n_is in
      subst (λ k. Holds k star (column_costs m costs u)) common_is (subst (Holds (common net).nodes star) (sym (own_costs from upto)) (shape_holds ok from (omega (arith, count)) light S.shape))

  light_at : (j : ℕ) → j < cols → {w : ℕ} → w ∈ get_or (common net).columns j [] → w ≤ 1000000
  unfolding cost_column
  light_at j h {w} k = let at : j + 1 - 1 ≡ j = omega arith in common_cost_to ok₀ (j + 1) (omega arith) (omega (arith, cols_are)) w (subst (λ (x : ℕ). w ∈ get_or (common net).columns x []) (sym at) k)

  small : (i : ℕ) → i < length costs → get_or costs i 0 ≤ 1000000
  small i h =
      let o = row_mem (common net).columns (subst (λ l. get_or costs i 0 ∈ l) S.costs_are (get_or_mem costs 0 i h)) in
      let j = mem_place (length (common net).columns) (common net).columns [] {x = o.0} (rw (take-length (common net).columns) o.1) in
      light_at j.0 (omega (arith, j.1, count)) (subst (λ l. get_or costs i 0 ∈ l) j.3 o.2)

  pub held_columns : HoldColumns n m cols star costs
  held_columns = record {
    columns_from = omega (arith, cols_are, ok₀.columns_from);
    columns_to = omega (arith, cols_are, ok₀.columns_to);
    costs_long = costs_long;
    graphs = λ u from upto. shared_graph from upto;
    costs_to = small;
  }

-- ---- columns of the arcs that are open in every column
module _ {e : ℕ} {net : Net} (ok₀ : Admitted e net) (c : Columns) (same : network_of c ≡ common net) where
  pub nodes_same : c.nodes ≡ net.nodes
  unfolding network
  nodes_same = ap (λ x. x.nodes) same ∙ common_nodes net

  pub count_same : c.count ≡ length net.columns
  count_same = sym (length_columns c.nodes c.arcs c.count c.star.now c.costs.now) ∙ ap (λ x. length x.columns) same ∙ common_columns net

  pub is_column : {u : ℕ} → 1 ≤ u → u ≤ length net.columns → IsColumn c u
  is_column from upto = record { from = from; upto = omega (arith, count_same) }

  column_same : (u : ℕ) → column (network_of c) u ≡ column (common net) u
  column_same u = ap (λ x. column x u) same

  ends_in : {s t : ℕ} → Ends net.nodes s t → Ends c.nodes s t
  ends_in {s} {t} h = subst (λ n. Ends n s t) (sym nodes_same) h

  within : {u : ℕ} → IsColumn c u → Within c.nodes (column (network_of c) u)
  within C = subst (Within c.nodes) (sym (held_column c C)) (graph_within (column_arcs c C))

  -- a list is a path in column 1 exactly if it is open in every column
  pub first_fault : (s t : ℕ) (nodes : List ℕ) → regret.fault (column (network_of c) 1) s t nodes ≡ regret.open_fault net s t nodes
  unfolding regret.open_fault
  first_fault s t nodes = ap (λ g. regret.fault g s t nodes) (column_same 1)

  open_path : {s t : ℕ} {p : Route} → OpenPath net s t p → Path (column (network_of c) 1) s t p
  open_path {s} {t} {p} q = subst (λ g. Path g s t p) (sym (column_same 1)) (path_common ok₀ 1 (omega arith) ok₀.columns_from q)

  -- ---- each column's best can be searched for
  pub joined : {s t : ℕ} → Reached net s t → Joined c s t
  joined R =
      let E = ends_in R.ends in
      record { start_from = E.start_in.from; start_to = E.start_in.upto; goal_to = E.goal_in.upto; in_column = 1; is_column = first_column c; route = R.route; path = open_path R.path }

  -- and with the bests found, all is held
  pub held : {s t : ℕ} → Ends net.nodes s t → {bests : List ℕ} → length bests ≡ length net.columns → bests ≡ regret.bests net s t → Held net c s t bests
  held {s} {t} ends {bests} long are = record { bests_are = are; priced = record { bests_long = long ∙ sym count_same; no_less = λ u from upto p r. low u from (omega (arith, count_same)) (subst (λ g. Path g s t p) (column_same u) r) } }
    where
      low : (u : ℕ) → 1 ≤ u → u ≤ length net.columns → {p : Route} → Path (column (common net) u) s t p → get_or bests (u - 1) 0 ≤ cost (column (network_of c) u) p
      low u from upto {p} q =
          let o = common_path ok₀ u q in
          let listed = path_listed net.nodes (column_within ok₀ u) ends.start_in.from ends.start_in.upto (o.in_column u from upto) in
          omega (arith, ap (λ l. get_or l (u - 1) 0) are, bests_at ok₀ s t ends.start_in.from ends.start_in.upto o u from upto, best_le net.nodes (column net u) s t listed, common_cost ok₀ u q, ap (λ g. cost g p) (column_same u))

  -- where every arc is open in every column, the bests of the columns are the network's
  pub bests_all : (s t : ℕ) → c.arcs ≡ length net.arcs → regret.bests (network_of c) s t ≡ regret.bests net s t
  bests_all s t all = ap (λ x. regret.bests x s t) (same ∙ common_all ok₀ (ap (λ x. length x.arcs) (sym same) ∙ length_arcs c ∙ all))

  -- ---- a labelled column
  module _ {s t r : ℕ} {overall : List ℕ} (ends : Ends net.nodes s t) (C : IsColumn c r) (L : Labelled c t r overall) where
    in_own : Ends c.nodes s t
    in_own = ends_in ends

    labels : Least (column (network_of c) r) [] t overall
    labels = subst (λ g. Least g [] t overall) (sym (column_graph c C)) L.least

    row_is : no_path_row c.nodes (column (network_of c) r) s t ≡ no_path_row net.nodes (column (common net) r) s t
    row_is = ap₂ (λ n g. no_path_row n g s t) nodes_same (column_same r)

    module _ (h : get_or overall s 0 ≡ far → ⊥) where
      found : (p : Route) × Path (column (network_of c) r) s t p
      found =
          let x = labels.attained s (omega (arith, in_own.start_in.upto, L.long)) (⊎_elim (λ e. absurd (h e)) (λ k. k) (eq-or-lt_of_le (labels.at_most s))) in
          (x.0, x.1.path)

      pub reached : Reached net s t
      reached = record { ends = ends; route = found.0; path = common_path ok₀ r (subst (λ g. Path g s t found.0) (column_same r) found.1) }

      pub some_ranked : 1 ≤ length (ranked c.nodes (column (network_of c) r) s t)
      some_ranked =
          let k = mem_length (path_ranked c.nodes (column (network_of c) r) s t (within C) in_own.start_in.from in_own.start_in.upto found.1) in
          omega (arith, k)

      pub reached_row : no_path_row net.nodes (column (common net) r) s t ≡ sound
      reached_row = sym row_is ∙ row_some c.nodes (within C) in_own.start_in.from in_own.start_in.upto found.1

    -- the start is not reached
    pub unreached_row : get_or overall s 0 ≡ far → no_path_row net.nodes (column (common net) r) s t ≡ fault 15 0
    unreached_row e = sym row_is ∙ row_none c.nodes (λ p h. let k = (labels.least s p (record { path = h; free = λ x i. refl })).1 in absurd (omega arith))

  -- ---- what is measured and searched
  module _ {s t : ℕ} (ends : Ends net.nodes s t) {bests : List ℕ} (H : Held net c s t bests) where
    -- a path that is open in every column
    module _ {p : Route} (q : OpenPath net s t p) where
      pub measurable_open : ByArcs (column (network_of c) 1) p × (((2 ≤ length p) × (length p ≤ 200)) × ((u : ℕ) → 1 ≤ u → u ≤ c.count → get_or bests (u - 1) 0 ≤ cost (column (network_of c) u) p))
      measurable_open = measurable c H.priced ends.start_in.from (ends_in ends).start_in.upto ends.apart (open_path q)

      measured_for : {f w : ℕ} → f ≡ figure_over (network_of c) bests p → w ≡ worst_over (network_of c) bests p → (f ≡ figure net s t p) × (w ≡ worst net s t p)
      measured_for e g = (
        e ∙ ap₂ (λ x l. figure_over x l p) same H.bests_are ∙ sym (over_figure ok₀ s t ends.start_in.from ends.start_in.upto q),
        g ∙ ap₂ (λ x l. worst_over x l p) same H.bests_are ∙ sym (over_worst ok₀ s t ends.start_in.from ends.start_in.upto q),
      )

      -- no figure reaches a limit above 199,000,000
      pub measured_below : {limit f w : ℕ} → 199000000 < limit → Measured limit (figure_over (network_of c) bests p) (worst_over (network_of c) bests p) f w → ((f ≡ figure net s t p) × (w ≡ worst net s t p)) × (f ≤ 199000000)
      measured_below {limit} {f} {w} high r = (measured_for is.0 is.1, omega (arith, is.0, small))
        where
          small : figure_over (network_of c) bests p ≤ 199000000
          small = figure_to c bests p (open_path q)

          is : (f ≡ figure_over (network_of c) bests p) × (w ≡ worst_over (network_of c) bests p)
          is = r.exact (⊎_elim (λ h. absurd (omega (arith, r.beyond h, small))) (λ h. h) (le_or_lt limit f))

    -- what the search answers
    pub search_robust : {r : ℕ} → IsColumn c r → (K : ℕ) → 1 ≤ K → terms.robust_over (network_of c) bests r s t K ≡ robust net r s t K
    search_robust {r} C K some =
        ap₂ (λ x l. terms.robust_over x l r s t K) same H.bests_are
        ∙ sym (robust_common ok₀ s t ends.start_in.from ends.start_in.upto r K C.from (omega (arith, C.upto, count_same)) some)

-- with an empty map they are the image's
pub whole_columns : (b : List ℕ) (c : Columns) → network_of c ≡ common (without [] (net_of b)) → network_of c ≡ common (net_of b)
whole_columns b c same = same ∙ ap common (without_none (net_of b))

-- ---- the graph of a column, with its labels
pub labelled_in : (c : Columns) (g : Graph) {r t : ℕ} {overall : List ℕ} → g.nodes ≡ c.nodes → g.star.now ≡ c.star.now → g.weights.now ≡ costs_in c r → length overall ≡ g.nodes + 1 → Least (arcs_of g) [] t overall → Labelled c t r overall
labelled_in c g {t = t} {overall = overall} nodes star weights long L = record { long = long ∙ ap (λ (x : ℕ). x + 1) nodes; least = subst₂ (λ x ws. Least (graph_of x ws) [] t overall) star weights L }

-- ---- the columns of an image without the closed arcs of a map
module _ {b : List ℕ} {sizes : Sizes} (a : Accepted b sizes) (words : List ℕ) (c : Columns) (same : network_of c ≡ common (without words (net_of b))) where
  pub nodes_image : c.nodes ≡ sizes.n
  nodes_image = nodes_same (rest_admitted a words) c same ∙ sym (a.nodes_are ∙ rest_nodes a words)

  pub count_image : c.count ≡ sizes.k
  count_image = count_same (rest_admitted a words) c same ∙ sym (rest_columns a words)

  pub rest_column : {r : ℕ} → InColumn b r → IsColumn c r
  rest_column C = record { from = C.from; upto = omega (arith, C.upto, count_image, a.columns_are) }

  -- the paths in the graph of one can be ranked
  pub column_problem : {s t : ℕ} → Ends (net_of b).nodes s t → (g : Graph) → g.nodes ≡ c.nodes → {overall : List ℕ} → length overall ≡ g.nodes + 1 → Least (arcs_of g) [] t overall → Problem g.nodes s t (arcs_of g) overall
  column_problem {s} {t} E g nodes long L =
      let own : Ends g.nodes s t = subst (λ n. Ends n s t) (sym (nodes ∙ nodes_image ∙ a.nodes_are)) E in
      problem_of g.holds (record { start_from = own.start_in.from; start_place = omega (arith, own.start_in.upto); goal_place = omega (arith, own.goal_in.upto); apart = own.apart }) (λ x. refl) long L

-- ---- the best of a column by itself: the start's label, or the mark where no path is open in the column
pub own_label : {e : ℕ} {net : Net} → Admitted e net → {u s t : ℕ} {star ws labels : List ℕ} → Loaded net u t star ws labels → 1 ≤ u → u ≤ length net.columns → 1 ≤ s → s ≤ net.nodes → narrowed (get_or labels s 0) ≡ regret.label net.nodes (column net u) t s
own_label ok l from upto lo hi = sym (label_narrowed ok from upto l.labels_long (loaded_least l) _ lo hi)

pub own_narrow : {e : ℕ} {net : Net} → Admitted e net → {u s t : ℕ} {star ws labels : List ℕ} → Loaded net u t star ws labels → 1 ≤ u → u ≤ length net.columns → s < length labels → Narrow (get_or labels s 0)
own_narrow ok l from upto h = narrow_at ok from upto l.labels_long (loaded_least l) _ h

pub own_bests : (net : Net) (s t : ℕ) {bests : List ℕ} → length bests ≡ length net.columns → ((j : ℕ) → 1 + j < length net.columns + 1 → get_or bests j 0 ≡ regret.label net.nodes (column net (1 + j)) t s) → bests ≡ regret.bests net s t
unfolding regret.bests
own_bests net s t long each = filled_all (λ u. regret.label net.nodes (column net u) t s) long each
