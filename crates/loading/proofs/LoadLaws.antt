-- A loaded column, and the arcs that are open in every column, from what is read and labelled. Assumes nothing.
use Prim.Native.Nat.{ℕ, ◌+◌, ◌≤◌, ◌<◌}
use native.Mathlib.Omega.{arith}
use mathlib.Core.Path.{◌≡◌, sym, ◌∙◌, ap, subst}
use mathlib.Core.Bool.{Bool, true, ◌&&◌}
use mathlib.Core.List.{List, [], map}
use lib.ListN.{length, get_or, length-map}
use borrow.Author.Tests.{eqb-false, not-true}
use Rattle.terms.specs.Lists.{◌∈◌}
use Rattle.terms.specs.Network.{Net, mark, cost_column, column, restrict, open_in, open_everywhere, Cost, at_most, marked, Admitted}
use Rattle.terms.proofs.ListLaws.{pick_mem, get_or_mem}
use Rattle.terms.proofs.NetworkLaws.{costs_restrict, costs_mem, costs_long, restrict_admitted, restrict_columns, restrict_nodes, column_open, column_unmarked}
use Rattle.star.specs.Arcs.{graph, Arcs}
use Rattle.star.specs.Layout.{graph_of, Holds}
use Rattle.labels.specs.Labels.{Least}
use Rattle.closures.specs.Map.{left, without}
use Rattle.closures.proofs.WithoutLaws.{without_columns, without_nodes, without_admitted, without_none, common_without, open_without}
use Rattle.loading.specs.Selected.{passing, selected, in_a_row}
use Rattle.loading.specs.Loaded.{Shape, Loaded, Shared}
use Rattle.loading.proofs.SelectLaws.{selected_restrict, selected_length, selected_nodes}
use Rattle.loading.proofs.DecodeLaws.{arcs_decoded, graph_weigh}
use Rattle.loading.proofs.ShapeLaws.{shape_holds, shape_graph}

-- a column in arrays: the arcs that are open in it, with their costs, all of them small
pub record ColumnArrays (net : Net) (u : ℕ) : Type 0 where
  pub tails : List ℕ
  pub heads : List ℕ
  pub weights : List ℕ
  pub graph_is : graph tails heads weights ≡ column net u
  pub arcs : Arcs net.nodes tails heads weights
  pub light : (i : ℕ) → i < length tails → get_or weights i 0 ≤ 1000000

-- ---- some arcs, each of them open in column u
module _ {e : ℕ} {net : Net} (ok : Admitted e net) {u : ℕ} (from : 1 ≤ u) (upto : u ≤ length net.columns) (f : ℕ → Bool) (opened : (i : ℕ) → f i ≡ true → open_in net u i ≡ true) where
  abbrev some : Net
  some = restrict f net

  unclosed : (w : ℕ) → w ∈ cost_column some u → w ≡ mark → ⊥
  unfolding open_in
  unclosed w m z =
      let k = pick_mem f 0 0 (cost_column net u) (subst (λ l. w ∈ l) (costs_restrict f net u) m) in
      eqb-false (get_or (cost_column net u) (0 + k.0) 0) mark (not-true _ (opened (0 + k.0) k.2)) (ap (λ i. get_or (cost_column net u) i 0) (omega arith) ∙ sym k.3 ∙ z)

  columns_to : u ≤ length some.columns
  columns_to = omega (arith, upto, restrict_columns f net)

  light : (w : ℕ) → w ∈ cost_column some u → w ≤ 1000000
  light w m = cheap ((restrict_admitted ok f).costs_to (cost_column some u) (costs_mem (restrict_admitted ok f) u from columns_to) w m)
    where
      cheap : Cost e w → w ≤ 1000000
      cheap (at_most h) = h
      cheap (marked d h) = absurd (unclosed w m h)

  module _ {s ws : List ℕ} (shape : Shape some s) (weights_are : ws ≡ cost_column some u) where
    some_holds : Holds some.nodes s ws
    some_holds = subst (Holds some.nodes s) (sym weights_are) (shape_holds (restrict_admitted ok f) from columns_to light shape)

    pub graph_holds : Holds net.nodes s ws
    graph_holds = subst (λ n. Holds n s ws) (restrict_nodes f net) some_holds

    pub loaded : {ls : List ℕ} {t : ℕ} → Least (graph_of s ws) [] t ls → length ls ≡ net.nodes + 1 → Loaded some u t s ws ls
    loaded least labels_long = record {
      holds = some_holds;
      graph_is = ap (graph_of s) weights_are ∙ shape_graph (restrict_admitted ok f) from columns_to light shape;
      least = least;
      labels_long = labels_long ∙ ap (λ n. n + 1) (sym (restrict_nodes f net));
    }

-- ---- all arcs that are open in column u
module _ {e : ℕ} {net : Net} (ok : Admitted e net) {u : ℕ} (from : 1 ≤ u) (upto : u ≤ length net.columns) where
  abbrev opened : Net
  opened = restrict (open_in net u) net

  -- in arrays
  pub column_held : ColumnArrays net u
  column_held = record {
    tails = map (λ a. a.0) opened.arcs;
    heads = map (λ a. a.1) opened.arcs;
    weights = cost_column opened u;
    graph_is = graph_weigh opened.arcs (cost_column opened u) ∙ column_open net u;
    arcs = subst (λ n. Arcs n (map (λ a. a.0) opened.arcs) (map (λ a. a.1) opened.arcs) (cost_column opened u)) (restrict_nodes (open_in net u) net) ((arcs_decoded admitted_here).arcs (cost_column opened u) (costs_long admitted_here u from inside) each_light);
    light = λ i h. each_light i (omega (arith, costs_long admitted_here u from inside, length-map opened.arcs (λ (a : ℕ × ℕ). a.0)));
  }
    where
      admitted_here : Admitted e opened
      admitted_here = restrict_admitted ok (open_in net u)

      inside : u ≤ length opened.columns
      inside = columns_to ok from upto (open_in net u) (λ i h. h)

      each_light : (i : ℕ) → i < length (cost_column opened u) → get_or (cost_column opened u) i 0 ≤ 1000000
      each_light i h = light ok from upto (open_in net u) (λ i h. h) _ (get_or_mem (cost_column opened u) 0 i h)

  -- they are the column
  pub column_opened : column opened u ≡ column net u
  column_opened = column_unmarked opened u (unclosed ok from upto (open_in net u) (λ i h. h)) ∙ column_open net u

-- what is loaded of one network is loaded of another that has the same column and nodes
pub loaded_as : {net net' : Net} {u t : ℕ} {s ws ls : List ℕ} → column net u ≡ column net' u → net.nodes ≡ net'.nodes → Loaded net u t s ws ls → Loaded net' u t s ws ls
loaded_as {s = s} {ws} e n l = record {
  holds = subst (λ i. Holds i s ws) n l.holds;
  graph_is = l.graph_is ∙ e;
  least = l.least;
  labels_long = l.labels_long ∙ ap (λ x. x + 1) n;
}

-- the arcs that a map leaves and that are open in column u, of the image's network
pub loaded_left : {e : ℕ} {net : Net} → Admitted e net → {u : ℕ} → 1 ≤ u → u ≤ length net.columns → (words : List ℕ) {m t : ℕ} {ks s ws ls : List ℕ} → m ≡ length net.arcs → ks ≡ passing (λ i. left words i && open_in net u i) m → Loaded (selected ks net) u t s ws ls → Loaded (without words net) u t s ws ls
loaded_left {net = net} ok {u} lo hi words {ks = ks} count are l =
    let ok' = without_admitted ok words in
    let same = selected_restrict ok (λ i. left words i && open_in net u i) count are ∙ sym (open_without ok words u lo hi) in
    loaded_as (ap (λ x. column x u) same ∙ column_opened ok' lo (omega (arith, hi, without_columns words net))) (selected_nodes ks net ∙ sym (without_nodes words net)) l

-- an empty map leaves all arcs
pub loaded_all : {net : Net} {u t : ℕ} {s ws ls : List ℕ} → Loaded (without [] net) u t s ws ls → Loaded net u t s ws ls
loaded_all {net} {u} {t} {s} {ws} {ls} l = subst (λ x. Loaded x u t s ws ls) (without_none net) l

-- the labels of a loaded column are the column's
pub loaded_least : {net : Net} {u t : ℕ} {s ws ls : List ℕ} → Loaded net u t s ws ls → Least (column net u) [] t ls
loaded_least {t = t} {ls = ls} l = subst (λ g. Least g [] t ls) l.graph_is l.least

-- ---- the arcs that a map leaves and that are open in every column
pub shared_left : {e : ℕ} {net : Net} → Admitted e net → (words : List ℕ) {m : ℕ} {ks s costs : List ℕ} → m ≡ length net.arcs → ks ≡ passing (λ i. left words i && open_everywhere net i) m → Shape (selected ks net) s → costs ≡ in_a_row (selected ks net).columns → Shared (without words net) (length ks) s costs
shared_left {net = net} ok words {ks = ks} {s} count are shape costs_are =
    let same = selected_restrict ok (λ i. left words i && open_everywhere net i) count are ∙ sym (common_without ok words) in
    record {
      arcs_are = sym (selected_length ks net) ∙ ap (λ x. length x.arcs) same;
      shape = subst (λ x. Shape x s) same shape;
      costs_are = costs_are ∙ ap (λ x. in_a_row x.columns) same;
    }
