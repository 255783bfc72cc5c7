-- `robust::check_robust`: row 13 for the path after the rows of `check_ranking`. Assumes nothing.
use native.Mathlib.Omega.{arith}
use mathlib.Core.Path.{sym, ◌∙◌, ap}
use Rattle.image.specs.Outcome.{gives}
use Rattle.image.proofs.OutcomeLaws.{then_next, outcome_fault, outcome_sound}
use Rattle.image.proofs.AnswerLaws.{ends_first}
use Rattle.outcomes.specs.Calls.{robust_rows}
use Rattle.outcomes.proofs.RowLaws.{given_sizes, sizes_of, ranking_sound, too_short, long_enough}
use Rattle.network_calls.proofs.robust.check_robust.Goals as goal

pub returns-in_err-sizes : goal.returns-in_err-sizes
unfolding robust_rows
returns-in_err-sizes c = ends_first _ _ _ c.from_residual.ensures.1 _ _ c.in_err-sizes.ensures _ _

pub returns-then-path-sizes : goal.returns-then-path-sizes
unfolding robust_rows
returns-then-path-sizes c =
    let p = given_sizes _ (λ e. (ranking_sound _ _ _ _ _ _ e).search.accepted) c.in_ok-sizes.ensures in
    sym (outcome_fault _ (then_next _ p.0 ∙ too_short _ _ (omega (arith, p.1.nodes_are, c.if-path-sizes.true))))

pub returns : goal.returns
unfolding robust_rows
returns c =
    let p = given_sizes _ (λ e. (ranking_sound _ _ _ _ _ _ e).search.accepted) c.in_ok-sizes.ensures in
    ap gives (sizes_of p.1) ∙ sym (outcome_sound _ (then_next _ p.0 ∙ long_enough _ _ (omega (arith, p.1.nodes_are, c.if-path-sizes.false))))
