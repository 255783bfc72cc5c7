-- `rows::check_ranking`: rows 12 and 13 after the rows of `check_search`. Assumes nothing.
use native.Mathlib.Omega.{arith}
use mathlib.Core.Path.{sym, ◌∙◌, ap}
use Rattle.image.specs.Outcome.{gives}
use Rattle.image.proofs.OutcomeLaws.{then_next, then_fault, outcome_fault, outcome_sound}
use Rattle.image.proofs.AnswerLaws.{ends_first}
use Rattle.outcomes.specs.Calls.{ranking_rows, room_row, workspace}
use Rattle.outcomes.proofs.RowLaws.{given_sizes, sizes_of, node_bounds, search_sound, wrong_count, right_count, count_to, too_short, long_enough}
use Rattle.outcomes.proofs.rows.check_ranking.Goals as goal

pub returns-in_err-sizes : goal.returns-in_err-sizes
unfolding ranking_rows
returns-in_err-sizes c = ends_first _ _ _ c.from_residual.ensures.1 _ _ c.in_err-sizes.ensures _ _

pub returns-then-not-is_one_of : goal.returns-then-not-is_one_of
unfolding ranking_rows
returns-then-not-is_one_of c =
    let p = given_sizes _ (λ e. (search_sound _ _ _ _ e).accepted) c.in_ok-sizes.ensures in
    sym (outcome_fault _ (then_next _ p.0 ∙ then_fault _ (wrong_count _ (sym c.if-not-is_one_of.ensures))))

pub workspace-requires : goal.workspace-requires
workspace-requires c =
    let p = given_sizes _ (λ e. (search_sound _ _ _ _ e).accepted) c.in_ok-sizes.ensures in
    ((node_bounds p.1).1, count_to (sym c.if-not-is_one_of.ensures))

-- the need of the workspace is that of the image's network
pub returns-then-work-workspace : goal.returns-then-work-workspace
unfolding ranking_rows
returns-then-work-workspace c =
    let p = given_sizes _ (λ e. (search_sound _ _ _ _ e).accepted) c.in_ok-sizes.ensures in
    sym (outcome_fault _ (then_next _ p.0 ∙ then_next _ (right_count _ (sym c.if-not-is_one_of.ensures)) ∙ ap (λ n. room_row c.args.work (workspace n c.args.wanted)) (sym p.1.nodes_are) ∙ too_short _ _ (omega (arith, c.workspace.ensures, c.if-work-workspace.true))))

pub returns : goal.returns
unfolding ranking_rows
returns c =
    let p = given_sizes _ (λ e. (search_sound _ _ _ _ e).accepted) c.in_ok-sizes.ensures in
    ap gives (sizes_of p.1) ∙ sym (outcome_sound _ (then_next _ p.0 ∙ then_next _ (right_count _ (sym c.if-not-is_one_of.ensures)) ∙ ap (λ n. room_row c.args.work (workspace n c.args.wanted)) (sym p.1.nodes_are) ∙ long_enough _ _ (omega (arith, c.workspace.ensures, c.if-work-workspace.false))))
