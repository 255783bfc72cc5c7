-- `deciding::decide`: a start whose label is the mark has no path that is open in every column. Assumes nothing.
use Prim.Native.Nat.{ℕ, ◌+◌}
use native.Mathlib.Omega.{arith}
use mathlib.Core.Path.{sym, ◌∙◌, ap}
use Rattle.terms.proofs.RoomLaws.{part_long}
use Rattle.image.specs.Outcome.{outcome, after}
use Rattle.image.proofs.OutcomeLaws.{then_fault, then_next, outcome_fault, after_fault}
use Rattle.loading.proofs.DecodeLaws.{admitted, few_nodes}
use Rattle.loading.proofs.RoomLaws.{star_fits, all_fit}
use Rattle.measuring.proofs.ColumnLaws.{first_column, columns_nodes}
use Rattle.network_calls.proofs.SharedLaws.{whole_columns, count_image, nodes_same, labelled_in, reached, reached_row, unreached_row}
use Rattle.search_calls.specs.Calls.{decided_rows, limit_of, search_path, search_values}
use Rattle.search_calls.proofs.deciding.decide.Goals as goal

-- ---- room
pub load_columns-columns-requires : goal.load_columns-columns-requires
load_columns-columns-requires c = record { star_room = star_fits c.args.network.now.accepted; costs_room = all_fit c.args.network.now.accepted }

pub overflow_add-labels : goal.overflow_add-labels
overflow_add-labels c = omega (arith, columns_nodes c.load_columns-columns.result)

pub slice_bounds-labels-end : goal.slice_bounds-labels-end
slice_bounds-labels-end c = omega (arith, columns_nodes c.load_columns-columns.result)

pub slice_bounds-labels-end-2 : goal.slice_bounds-labels-end-2
slice_bounds-labels-end-2 c = sym (part_long 201 _ (omega (arith, columns_nodes c.load_columns-columns.result)))

pub overflow_cast-task : goal.overflow_cast-task
overflow_cast-task c = omega (arith, c.requires.ends.start_in.upto, c.args.network.now.accepted.nodes_are, few_nodes c.args.network.now.accepted)

-- ---- the arcs that are open in every column are labelled
pub column-requires : goal.column-requires
column-requires c = first_column c.load_columns-columns.result

pub label_nodes-requires : goal.label_nodes-requires
label_nodes-requires c =
    let a = c.args.network.now.accepted in
    let ok = admitted a in
    let columns = c.load_columns-columns.result in
    let same = whole_columns c.args.network.now.image.now columns c.load_columns-columns.ensures in
    let G = c.column.ensures in
    record { goal = omega (arith, G.nodes, nodes_same ok columns same, c.requires.ends.goal_in.upto); overall_long = part_long 201 (columns.nodes + 1) (omega (arith, columns_nodes columns)) ∙ ap (λ (x : ℕ). x + 1) (sym G.nodes) }

pub bounds-labels-start : goal.bounds-labels-start
bounds-labels-start c =
    let a = c.args.network.now.accepted in
    let ok = admitted a in
    let columns = c.load_columns-columns.result in
    let same = whole_columns c.args.network.now.image.now columns c.load_columns-columns.ensures in
    let G = c.column.ensures in
    let long = c.label_nodes.auto.overall ∙ part_long 201 (columns.nodes + 1) (omega (arith, columns_nodes columns)) ∙ ap (λ (x : ℕ). x + 1) (sym G.nodes) in
    omega (arith, long, G.nodes, nodes_same ok columns same, c.requires.ends.start_in.upto)

pub returns-then-labels-start : goal.returns-then-labels-start
unfolding decided_rows
returns-then-labels-start c =
    let a = c.args.network.now.accepted in
    let ok = admitted a in
    let columns = c.load_columns-columns.result in
    let same = whole_columns c.args.network.now.image.now columns c.load_columns-columns.ensures in
    let G = c.column.ensures in
    let C = first_column columns in
    let long = c.label_nodes.auto.overall ∙ part_long 201 (columns.nodes + 1) (omega (arith, columns_nodes columns)) ∙ ap (λ (x : ℕ). x + 1) (sym G.nodes) in
    let labelled = labelled_in columns c.column.result G.nodes G.star G.weights long c.label_nodes.ensures in
    let e = then_fault (limit_of c.args.network.now.image.now c.args.start c.args.goal c.args.limit) (unreached_row ok columns same c.requires.ends C labelled c.if-labels-start.true) in
    record { result_value = sym (outcome_fault _ e); path_after = sym (after_fault _ _ e) }

-- ---- there is a path
pub answer-requires : goal.answer-requires
answer-requires c =
    let a = c.args.network.now.accepted in
    let ok = admitted a in
    let columns = c.load_columns-columns.result in
    let same = whole_columns c.args.network.now.image.now columns c.load_columns-columns.ensures in
    let G = c.column.ensures in
    let C = first_column columns in
    let long = c.label_nodes.auto.overall ∙ part_long 201 (columns.nodes + 1) (omega (arith, columns_nodes columns)) ∙ ap (λ (x : ℕ). x + 1) (sym G.nodes) in
    let labelled = labelled_in columns c.column.result G.nodes G.star G.weights long c.label_nodes.ensures in
    record { reached = reached ok columns same c.requires.ends C labelled c.if-labels-start.false; common = same; bests_long = part_long 8 columns.count columns.held.columns_to ∙ count_image a _ columns c.load_columns-columns.ensures; best_long = omega (arith, few_nodes a); path_long = omega (arith, a.nodes_are, c.requires.path_long) }

pub returns : goal.returns
unfolding decided_rows
returns c =
    let a = c.args.network.now.accepted in
    let ok = admitted a in
    let columns = c.load_columns-columns.result in
    let same = whole_columns c.args.network.now.image.now columns c.load_columns-columns.ensures in
    let G = c.column.ensures in
    let C = first_column columns in
    let long = c.label_nodes.auto.overall ∙ part_long 201 (columns.nodes + 1) (omega (arith, columns_nodes columns)) ∙ ap (λ (x : ℕ). x + 1) (sym G.nodes) in
    let labelled = labelled_in columns c.column.result G.nodes G.star G.weights long c.label_nodes.ensures in
    let e = sym (then_next (limit_of c.args.network.now.image.now c.args.start c.args.goal c.args.limit) (reached_row ok columns same c.requires.ends C labelled c.if-labels-start.false)) in
    record { result_value = c.answer.ensures.result_value ∙ ap (λ f. outcome f (search_values c.args.network.now.image.now c.args.start c.args.goal)) e; path_after = c.answer.ensures.path_after ∙ ap (λ f. after f (search_path c.args.network.now.image.now c.args.start c.args.goal) c.args.path.now) e }
