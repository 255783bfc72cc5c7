-- `record_calls::update::check_both`: of the image's rows and row 4 for the list the lower one. Assumes nothing.
use mathlib.Core.Path.{sym, ◌∙◌, ap}
use Rattle.image.specs.Outcome.{Fault, outcome}
use Rattle.image.specs.Calls.{sizes, check_outcome}
use Rattle.image.proofs.OutcomeLaws.{outcome_fault}
use Rattle.image.proofs.ByteLaws.{all_bytes}
use Rattle.image.proofs.CheckLaws.{accepted, rejected}
use Rattle.record_calls.proofs.UpdateLaws.{fours, only_list, image_first, list_first}
use Rattle.record_calls.proofs.update.check_both.Goals as goal

pub returns-then-records-eq0 : goal.returns-then-records-eq0
unfolding check_outcome
returns-then-records-eq0 c =
    record { answer = c.check-answer.ensures ∙ ap (λ (f : Fault). outcome f (sizes c.args.image.now)) (sym (fours c.args.image.now c.args.records.now c.if-records-eq0.true)); bytes = all_bytes _ (λ i. (c.type_inv.image i).fits) }

pub returns-in_default : goal.returns-in_default
returns-in_default c =
    record { answer = sym (outcome_fault _ (only_list _ _ c.if-records-eq0.false (accepted _ c.in_default.ensures).0)); bytes = all_bytes _ (λ i. (c.type_inv.image i).fits) }

pub returns-then-number-le4 : goal.returns-then-number-le4
returns-then-number-le4 c =
    record { answer = sym (outcome_fault _ (image_first _ _ (rejected _ c.in-Err.ensures) (rw c.number.ensures at c.if-number-le4.true))); bytes = all_bytes _ (λ i. (c.type_inv.image i).fits) }

pub returns : goal.returns
returns c =
    record { answer = sym (outcome_fault _ (list_first _ _ c.if-records-eq0.false (rejected _ c.in-Err.ensures) (rw c.number.ensures at c.if-number-le4.false))); bytes = all_bytes _ (λ i. (c.type_inv.image i).fits) }
