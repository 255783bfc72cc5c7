-- `rows::check_search`: row 11 after the rows of `check_ends`. Assumes nothing.
use mathlib.Core.Path.{sym, ◌∙◌, ap}
use Rattle.image.specs.Outcome.{gives}
use Rattle.image.proofs.OutcomeLaws.{then_next, then_sound, outcome_fault, outcome_sound}
use Rattle.image.proofs.AnswerLaws.{ends_first}
use Rattle.outcomes.specs.Calls.{search_rows}
use Rattle.outcomes.proofs.RowLaws.{given_sizes, sizes_of, wrong_column, right_column}
use Rattle.outcomes.proofs.rows.check_search.Goals as goal

pub returns-in_err-sizes : goal.returns-in_err-sizes
unfolding search_rows
returns-in_err-sizes c = ends_first _ _ _ c.from_residual.ensures.1 _ _ c.in_err-sizes.ensures _ _

pub returns-then-not-is_one_of : goal.returns-then-not-is_one_of
unfolding search_rows
returns-then-not-is_one_of c =
    let p = given_sizes _ (λ e. (then_sound _ _ e).0) c.in_ok-sizes.ensures in
    sym (outcome_fault _ (then_next _ p.0 ∙ wrong_column p.1 _ (sym c.if-not-is_one_of.ensures)))

pub returns : goal.returns
unfolding search_rows
returns c =
    let p = given_sizes _ (λ e. (then_sound _ _ e).0) c.in_ok-sizes.ensures in
    ap gives (sizes_of p.1) ∙ sym (outcome_sound _ (then_next _ p.0 ∙ right_column p.1 _ (sym c.if-not-is_one_of.ensures)))
