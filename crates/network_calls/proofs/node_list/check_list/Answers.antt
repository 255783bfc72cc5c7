-- `node_list::check_list` gives row 14, with its place. The nodes before it are distinct, so it is at most n. Assumes nothing.
use native.Mathlib.Omega.{arith}
use mathlib.Core.Path.{sym, ◌∙◌, ap}
use Rattle.star.specs.Layout.{graph_of}
use Rattle.outcomes.specs.Calls.{list_row}
use Rattle.network_calls.proofs.NodeListLaws.{no_nodes, wrong_first, place_to, error_found, wrong_last, right_last}
use Rattle.network_calls.proofs.node_list.check_list.Goals.{then-nodes-eq0-via-then-nodes-eq0, then-nodes-eq0-via-else-nodes-eq0+then-from-start}
use Rattle.network_calls.proofs.node_list.check_list.Goals as goal

pub returns-then-nodes-eq0 : goal.returns-then-nodes-eq0
unfolding list_row
returns-then-nodes-eq0 c = elim c.then-nodes-eq0.branch [
  | then-nodes-eq0-via-then-nodes-eq0 w ↦ sym (ap list_row (no_nodes _ _ _ _ w.if-nodes-eq0.true))
  | then-nodes-eq0-via-else-nodes-eq0+then-from-start w ↦ sym (ap list_row (wrong_first _ _ _ _ (λ e. w.if-from-start.true (w.from.ensures ∙ e))))
]

pub first_error-requires : goal.first_error-requires
first_error-requires c =
    record { some_node = omega arith; first_node = omega (arith, c.requires.upto, sym c.from.ensures ∙ c.if-from-start.false) }

pub returns-in-Some : goal.returns-in-Some
unfolding graph_of list_row
returns-in-Some c =
    let g = c.args.graph.now in
    let found = rw c.in-Some.is at c.first_error.ensures in
    sym (ap list_row (error_found g.holds.arcs c.requires (sym c.from.ensures ∙ c.if-from-start.false) found.0 _ found.1))

pub returns-then-from-goal : goal.returns-then-from-goal
unfolding graph_of list_row
returns-then-from-goal c =
    let g = c.args.graph.now in
    let found = rw c.in_default.is at c.first_error.ensures in
    sym (ap list_row (wrong_last g.holds.arcs c.requires (sym c.from.ensures ∙ c.if-from-start.false) found _ (omega arith) (λ e. c.if-from-goal.true (c.from-2.ensures ∙ e))))

pub returns : goal.returns
unfolding graph_of list_row
returns c =
    let g = c.args.graph.now in
    let found = rw c.in_default.is at c.first_error.ensures in
    sym (ap list_row (right_last g.holds.arcs c.requires (sym c.from.ensures ∙ c.if-from-start.false) found _ (omega arith) (sym c.from-2.ensures ∙ c.if-from-goal.false)))

pub overflow_cast-result : goal.overflow_cast-result
overflow_cast-result c =
    let g = c.args.graph.now in
    let found = rw c.in-Some.is at c.first_error.ensures in
    omega (arith, place_to g.holds.arcs c.requires (sym c.from.ensures ∙ c.if-from-start.false) found.0, g.holds.arcs.few_nodes)

pub overflow_cast-result-then-from-goal : goal.overflow_cast-result-then-from-goal
overflow_cast-result-then-from-goal c =
    let g = c.args.graph.now in
    let found = rw c.in_default.is at c.first_error.ensures in
    omega (arith, place_to g.holds.arcs c.requires (sym c.from.ensures ∙ c.if-from-start.false) found, g.holds.arcs.few_nodes)
