-- `robust::robust` meets its contract. Assumes nothing.
use mathlib.Core.Path.{sym, ◌∙◌, ap}
use lib.ListN.{length}
use Rattle.image.specs.Outcome.{outcome, after}
use Rattle.image.specs.Calls.{sizes}
use Rattle.image.proofs.AnswerLaws.{handed_on}
use Rattle.image.proofs.OutcomeLaws.{then_fault, then_next, outcome_fault, after_fault, refuses_fault}
use Rattle.outcomes.specs.Calls.{choice_row, robust_rows, robust_fault, robust_of, chosen, robust_values, robust_outcome, cleared}
use Rattle.outcomes.proofs.RowLaws.{given_sizes}
use Rattle.outcomes.proofs.WorkLaws.{cleared_not}
use Rattle.network_calls.proofs.ChoiceLaws.{robust_sound, choice_slices, kept_3}
use Rattle.network_calls.proofs.robust.robust.Goals as goal

pub returns-in_err-sizes : goal.returns-in_err-sizes
unfolding robust_outcome robust_fault
returns-in_err-sizes c =
    let e = then_fault (choice_row c.args.image.now c.args.column c.args.start c.args.goal) (refuses_fault (robust_rows c.args.image.now c.args.column c.args.start c.args.goal c.args.wanted (length c.args.path.now) (length c.args.work.now)) (sizes c.args.image.now) c.in_err-sizes.ensures) in
    record { result_value = handed_on _ _ _ c.from_residual.ensures.1 ∙ sym (outcome_fault _ e); path_after = sym (after_fault _ _ e); work_after = sym (cleared_not _ e); kept3 = kept_3 _ _ _ _ _ _ _ }

pub choose_whole-requires : goal.choose_whole-requires
choose_whole-requires c =
    let b = c.args.image.now in
    let p = given_sizes _ (λ e. (robust_sound b c.args.column c.args.start c.args.goal c.args.wanted c.args.path.now c.args.work.now e).accepted) c.in_ok-sizes.ensures in
    let g = robust_sound b c.args.column c.args.start c.args.goal c.args.wanted c.args.path.now c.args.work.now p.0 in
    record { column = record { from = g.from; upto = g.upto }; ends = g.ends; choice_slices = choice_slices b c.args.column c.args.start c.args.goal c.args.wanted c.args.path.now c.args.work.now p.0 }

pub returns : goal.returns
unfolding robust_outcome robust_fault choice_row
returns c =
    let b = c.args.image.now in
    let p = given_sizes _ (λ e. (robust_sound b c.args.column c.args.start c.args.goal c.args.wanted c.args.path.now c.args.work.now e).accepted) c.in_ok-sizes.ensures in
    let e = sym (then_next (choice_row b c.args.column c.args.start c.args.goal) p.0) in
    record { result_value = c.choose_whole.ensures.result_value ∙ ap (λ f. outcome f (robust_values (robust_of b c.args.column c.args.start c.args.goal c.args.wanted))) e; path_after = c.choose_whole.ensures.path_after ∙ ap (λ f. after f (chosen (robust_of b c.args.column c.args.start c.args.goal c.args.wanted)) c.args.path.now) e; work_after = c.choose_whole.ensures.work_after ∙ ap (λ f. cleared f c.args.work.now) e; kept3 = kept_3 _ _ _ _ _ _ _ }

pub invariant_of-network : goal.invariant_of-network
invariant_of-network c =
    record { accepted = (given_sizes _ (λ e. (robust_sound c.args.image.now c.args.column c.args.start c.args.goal c.args.wanted c.args.path.now c.args.work.now e).accepted) c.in_ok-sizes.ensures).1 }
