-- `chosen::choose_left`: a start whose label is the mark has no path; else the labelled column is searched, and the answer is Robust's. Assumes nothing.
use Prim.Native.Nat.{ℕ, ◌+◌}
use native.Mathlib.Omega.{arith}
use mathlib.Core.Path.{refl, sym, ◌∙◌, ap, ap₂}
use lib.ListN.{length}
use Rattle.terms.proofs.RoomLaws.{part_long}
use Rattle.terms.specs.Ranking.{ranked}
use Rattle.image.specs.Outcome.{gives, sound, after}
use Rattle.image.proofs.OutcomeLaws.{outcome_fault, after_fault}
use Rattle.loading.proofs.DecodeLaws.{few_nodes}
use Rattle.loading.proofs.RoomLaws.{star_fits, all_fit}
use Rattle.measuring.proofs.ColumnLaws.{columns_nodes}
use Rattle.outcomes.specs.Calls.{robust_values, chosen, cleared}
use Rattle.outcomes.proofs.WorkLaws.{cleared_is, cleared_not}
use Rattle.network_calls.proofs.SharedLaws.{rest_admitted, rest_ends, rest_column, nodes_image, count_image, labelled_in, column_problem, reached, some_ranked, reached_row, unreached_row, search_robust}
use Rattle.network_calls.proofs.ChoiceLaws.{values_in, path_in, space_for}
use Rattle.network_calls.proofs.chosen.choose_left.Goals as goal

-- ---- room
pub load_columns-columns-requires : goal.load_columns-columns-requires
load_columns-columns-requires c = record { star_room = star_fits c.args.network.now.accepted; costs_room = all_fit c.args.network.now.accepted }

pub overflow_add-labels : goal.overflow_add-labels
overflow_add-labels c = omega (arith, columns_nodes c.load_columns-columns.result)

pub slice_bounds-labels-end : goal.slice_bounds-labels-end
slice_bounds-labels-end c = omega (arith, columns_nodes c.load_columns-columns.result)

pub slice_bounds-labels-end-2 : goal.slice_bounds-labels-end-2
slice_bounds-labels-end-2 c = sym (part_long 201 _ (omega (arith, columns_nodes c.load_columns-columns.result)))

pub overflow_cast-query : goal.overflow_cast-query
overflow_cast-query c = omega (arith, c.requires.ends.start_in.upto, c.args.network.now.accepted.nodes_are, few_nodes c.args.network.now.accepted)

-- ---- the column is labelled
pub column-graph-requires : goal.column-graph-requires
column-graph-requires c = rest_column c.args.network.now.accepted c.args.closed.now c.load_columns-columns.result c.load_columns-columns.ensures c.requires.column

pub label_nodes-requires : goal.label_nodes-requires
label_nodes-requires c =
    let a = c.args.network.now.accepted in
    let words = c.args.closed.now in
    let columns = c.load_columns-columns.result in
    let same = c.load_columns-columns.ensures in
    let G = c.column-graph.ensures in
    record { goal = omega (arith, G.nodes, nodes_image a words columns same, a.nodes_are, c.requires.ends.goal_in.upto); overall_long = part_long 201 (columns.nodes + 1) (omega (arith, columns_nodes columns)) ∙ ap (λ (x : ℕ). x + 1) (sym G.nodes) }

pub bounds-labels-start : goal.bounds-labels-start
bounds-labels-start c =
    let a = c.args.network.now.accepted in
    let words = c.args.closed.now in
    let columns = c.load_columns-columns.result in
    let same = c.load_columns-columns.ensures in
    let G = c.column-graph.ensures in
    let long = c.label_nodes.auto.overall ∙ part_long 201 (columns.nodes + 1) (omega (arith, columns_nodes columns)) ∙ ap (λ (x : ℕ). x + 1) (sym G.nodes) in
    omega (arith, long, G.nodes, nodes_image a words columns same, a.nodes_are, c.requires.ends.start_in.upto)

pub returns-then-labels-start : goal.returns-then-labels-start
returns-then-labels-start c =
    let a = c.args.network.now.accepted in
    let words = c.args.closed.now in
    let columns = c.load_columns-columns.result in
    let same = c.load_columns-columns.ensures in
    let G = c.column-graph.ensures in
    let ok = rest_admitted a words in
    let ends = rest_ends a words c.requires.ends in
    let C = rest_column a words columns same c.requires.column in
    let long = c.label_nodes.auto.overall ∙ part_long 201 (columns.nodes + 1) (omega (arith, columns_nodes columns)) ∙ ap (λ (x : ℕ). x + 1) (sym G.nodes) in
    let labelled = labelled_in columns c.column-graph.result G.nodes G.star G.weights long c.label_nodes.ensures in
    let e = unreached_row ok columns same ends C labelled c.if-labels-start.true in
    record { result_value = sym (outcome_fault _ e); path_after = sym (after_fault _ _ e); work_after = sym (cleared_not _ e) }

-- ---- it is searched
pub price-requires : goal.price-requires
price-requires c =
    let a = c.args.network.now.accepted in
    let words = c.args.closed.now in
    let columns = c.load_columns-columns.result in
    let same = c.load_columns-columns.ensures in
    let G = c.column-graph.ensures in
    let ok = rest_admitted a words in
    let ends = rest_ends a words c.requires.ends in
    let C = rest_column a words columns same c.requires.column in
    let long = c.label_nodes.auto.overall ∙ part_long 201 (columns.nodes + 1) (omega (arith, columns_nodes columns)) ∙ ap (λ (x : ℕ). x + 1) (sym G.nodes) in
    let labelled = labelled_in columns c.column-graph.result G.nodes G.star G.weights long c.label_nodes.ensures in
    record { common = same; reached = reached ok columns same ends C labelled c.if-labels-start.false; bests_long = part_long 8 columns.count columns.held.columns_to ∙ count_image a words columns same; labelled = labelled }

pub invariant_of-query : goal.invariant_of-query
invariant_of-query c =
    let a = c.args.network.now.accepted in
    let words = c.args.closed.now in
    let columns = c.load_columns-columns.result in
    let same = c.load_columns-columns.ensures in
    let G = c.column-graph.ensures in
    let long = c.label_nodes.auto.overall ∙ part_long 201 (columns.nodes + 1) (omega (arith, columns_nodes columns)) ∙ ap (λ (x : ℕ). x + 1) (sym G.nodes) in
    record { posed = column_problem a words columns same c.requires.ends c.column-graph.result G.nodes long c.label_nodes.ensures }

pub invariant_of-contest : goal.invariant_of-contest
invariant_of-contest c =
    let a = c.args.network.now.accepted in
    let words = c.args.closed.now in
    let columns = c.load_columns-columns.result in
    let same = c.load_columns-columns.ensures in
    let G = c.column-graph.ensures in
    let ok = rest_admitted a words in
    let ends = rest_ends a words c.requires.ends in
    let C = rest_column a words columns same c.requires.column in
    let long = c.label_nodes.auto.overall ∙ part_long 201 (columns.nodes + 1) (omega (arith, columns_nodes columns)) ∙ ap (λ (x : ℕ). x + 1) (sym G.nodes) in
    let labelled = labelled_in columns c.column-graph.result G.nodes G.star G.weights long c.label_nodes.ensures in
    let some = some_ranked ok columns same ends C labelled c.if-labels-start.false in
    let own = ap₂ (λ n g. length (ranked n g c.args.start c.args.goal)) G.nodes G.graph in
    record { posed = record { in_column = C; nodes_are = G.nodes; arcs_are = G.graph; some_path = omega (arith, some, own); some_wanted = c.requires.choice_slices.wanted_from; slots_are = refl; priced = c.price.ensures.priced } }

pub choose_priced-requires : goal.choose_priced-requires
choose_priced-requires c =
    let a = c.args.network.now.accepted in
    let words = c.args.closed.now in
    let columns = c.load_columns-columns.result in
    let same = c.load_columns-columns.ensures in
    let G = c.column-graph.ensures in
    let nodes = G.nodes ∙ nodes_image a words columns same ∙ a.nodes_are in
    record { space = space_for nodes c.requires.choice_slices; path_long = omega (arith, nodes, c.requires.choice_slices.path_long) }

pub returns : goal.returns
returns c =
    let a = c.args.network.now.accepted in
    let words = c.args.closed.now in
    let columns = c.load_columns-columns.result in
    let same = c.load_columns-columns.ensures in
    let G = c.column-graph.ensures in
    let ok = rest_admitted a words in
    let ends = rest_ends a words c.requires.ends in
    let C = rest_column a words columns same c.requires.column in
    let long = c.label_nodes.auto.overall ∙ part_long 201 (columns.nodes + 1) (omega (arith, columns_nodes columns)) ∙ ap (λ (x : ℕ). x + 1) (sym G.nodes) in
    let labelled = labelled_in columns c.column-graph.result G.nodes G.star G.weights long c.label_nodes.ensures in
    let e = reached_row ok columns same ends C labelled c.if-labels-start.false in
    let answer_is = search_robust ok columns same ends c.price.ensures C c.args.wanted c.requires.choice_slices.wanted_from in
    record {
      result_value = values_in _ e (ap gives (c.choose_priced.ensures.result_value ∙ ap robust_values answer_is));
      path_after = path_in _ e c.args.path.now (c.choose_priced.ensures.path_after ∙ ap (λ x. after sound (chosen x) c.args.path.now) answer_is);
      work_after = c.choose_priced.ensures.work_after ∙ cleared_is c.args.work.now ∙ ap (λ f. cleared f c.args.work.now) (sym e);
    }
