-- `label::check_label`: each return is the first row of Label that applies. Assumes nothing.
use mathlib.Core.Path.{sym, ◌∙◌, ap}
use Rattle.image.specs.Outcome.{gives}
use Rattle.image.specs.Answers.{answer, size_list}
use Rattle.image.proofs.AnswerLaws.{refused_first, of_check}
use Rattle.image.proofs.OutcomeLaws.{outcome_fault, outcome_sound}
use Rattle.outcomes.specs.Calls.{label_fault}
use Rattle.outcomes.proofs.RowLaws.{given_network, sizes_of, no_goal, no_column, no_room, label_passes}
use Rattle.column_calls.proofs.label.check_label.Goals as goal

pub returns-in_default : goal.returns-in_default
unfolding label_fault
returns-in_default c = ap (answer size_list) c.in_default.is ∙ sym (refused_first _ _ _ (of_check _ c.in_default.ensures) _ _)

pub returns-then-not-is_node : goal.returns-then-not-is_node
returns-then-not-is_node c =
    sym (outcome_fault _ (no_goal (given_network c.in-Ok.ensures) _ _ _ (sym c.if-not-is_node.ensures)))

pub returns-then-not-is_one_of : goal.returns-then-not-is_one_of
returns-then-not-is_one_of c =
    sym (outcome_fault _ (no_column (given_network c.in-Ok.ensures) _ _ _ (sym c.if-not-is_node.ensures) (sym c.if-not-is_one_of.ensures)))

pub returns-then-room-sizes : goal.returns-then-room-sizes
returns-then-room-sizes c =
    sym (outcome_fault _ (no_room (given_network c.in-Ok.ensures) _ _ _ (sym c.if-not-is_node.ensures) (sym c.if-not-is_one_of.ensures) c.if-room-sizes.true))

pub returns : goal.returns
returns c =
    let known = given_network c.in-Ok.ensures in
    ap gives (sizes_of known) ∙ sym (outcome_sound _ (label_passes known _ _ _ (sym c.if-not-is_node.ensures) (sym c.if-not-is_one_of.ensures) c.if-room-sizes.false))
