-- `search::check_room`: row 13 for the path after the rows of `check_ends`. Assumes nothing.
use native.Mathlib.Omega.{arith}
use mathlib.Core.Path.{sym, ◌∙◌, ap}
use Rattle.image.specs.Outcome.{gives}
use Rattle.image.proofs.AnswerLaws.{ends_first}
use Rattle.image.proofs.OutcomeLaws.{then_next, then_sound, outcome_fault, outcome_sound}
use Rattle.outcomes.proofs.RowLaws.{given_sizes, sizes_of, too_short, long_enough}
use Rattle.search_calls.specs.Calls.{entry_rows}
use Rattle.search_calls.proofs.search.check_room.Goals as goal

pub returns-in_err-sizes : goal.returns-in_err-sizes
unfolding entry_rows
returns-in_err-sizes c = ends_first _ _ _ c.from_residual.ensures.1 _ _ c.in_err-sizes.ensures _ _

pub returns-then-room-sizes : goal.returns-then-room-sizes
unfolding entry_rows
returns-then-room-sizes c =
    let p = given_sizes _ (λ e. (then_sound _ _ e).0) c.in_ok-sizes.ensures in
    sym (outcome_fault _ (then_next _ p.0 ∙ too_short _ _ (omega (arith, p.1.nodes_are, c.if-room-sizes.true))))

pub returns : goal.returns
unfolding entry_rows
returns c =
    let p = given_sizes _ (λ e. (then_sound _ _ e).0) c.in_ok-sizes.ensures in
    ap gives (sizes_of p.1) ∙ sym (outcome_sound _ (then_next _ p.0 ∙ long_enough _ _ (omega (arith, p.1.nodes_are, c.if-room-sizes.false))))
