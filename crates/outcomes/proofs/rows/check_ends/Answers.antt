-- `rows::check_ends`: each return is the first of the rows that applies. Assumes nothing.
use mathlib.Core.Path.{sym, ◌∙◌, ap}
use Rattle.image.specs.Outcome.{gives}
use Rattle.image.specs.Answers.{answer, size_list}
use Rattle.image.proofs.OutcomeLaws.{outcome_fault, outcome_sound}
use Rattle.image.proofs.AnswerLaws.{refused_first, of_check}
use Rattle.outcomes.proofs.RowLaws.{given_network, sizes_of, wrong_ends, right_ends}
use Rattle.outcomes.proofs.rows.check_ends.Goals as goal

pub returns-in_default : goal.returns-in_default
returns-in_default c = ap (answer size_list) c.in_default.is ∙ sym (refused_first _ _ _ (of_check _ c.in_default.ensures) _ _)

pub returns-then-not-are_ends : goal.returns-then-not-are_ends
returns-then-not-are_ends c = sym (outcome_fault _ (wrong_ends (given_network c.in-Ok.ensures) _ _ (sym c.if-not-are_ends.ensures)))

pub returns : goal.returns
returns c =
    let known = given_network c.in-Ok.ensures in
    ap gives (sizes_of known) ∙ sym (outcome_sound _ (right_ends known _ _ (sym c.if-not-are_ends.ensures)))
