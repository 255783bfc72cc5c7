-- `record_calls::update::update` writes the records where no row applies, and else nothing. Assumes nothing.
use Prim.Native.Nat.{ℕ}
use mathlib.Core.Path.{◌≡◌, sym, ◌∙◌}
use mathlib.Core.List.{List}
use Rattle.image.specs.Outcome.{Fault, sound, gives, outcome}
use Rattle.image.specs.Calls.{sizes}
use Rattle.image.specs.Answers.{size_list}
use Rattle.image.specs.declared.check.Sizes.{Sizes}
use Rattle.image.proofs.AnswerLaws.{handed_on}
use Rattle.image.proofs.OutcomeLaws.{then_fault, outcome_fault, outcome_sound, gives_sound, refuses_fault, after_fault}
use Rattle.image.proofs.CheckLaws.{Sized, sized, bounds, accepted_header}
use Rattle.record_calls.specs.Records.{record_list}
use Rattle.record_calls.specs.Calls.{both_fault, records_fault, update_fault, update_outcome}
use Rattle.record_calls.proofs.UpdateLaws.{both_sound, records_decide, updates_of, image_written}
use Rattle.record_calls.proofs.update.update.Goals as goal

-- sizes are given only where neither the image nor the list's length is refused
passes : (b l : List ℕ) {z : Sizes} → gives (size_list z) ≡ outcome (both_fault b l) (sizes b) → (both_fault b l ≡ sound) × Sized b z.n z.m z.k z.edition
passes b l e = let g = gives_sound (both_fault b l) _ e in (g.0, sized b g.1)

-- and then the rows of the records decide
decided : (b l : List ℕ) {z : Sizes} {f : Fault} → gives (size_list z) ≡ outcome (both_fault b l) (sizes b) → f ≡ records_fault z.edition z.m z.k 0 (record_list l) → update_fault b l ≡ f
decided b l e h = let p = passes b l e in records_decide b l p.0 p.1 ∙ sym h

pub returns-in_err-sizes : goal.returns-in_err-sizes
unfolding update_outcome update_fault
returns-in_err-sizes c =
    let f = then_fault _ (refuses_fault _ _ c.in_err-sizes.ensures.answer) in
    record { result_value = handed_on _ _ _ c.from_residual.ensures.1 ∙ sym (outcome_fault _ f); image_after = sym (after_fault _ _ f); updates = updates_of _ _ }

pub returns-in_err-check_records : goal.returns-in_err-check_records
unfolding update_outcome
returns-in_err-check_records c =
    let f = decided _ _ c.in_ok-sizes.ensures.answer c.in_err-check_records.ensures in
    record { result_value = handed_on _ _ _ c.from_residual-in_err-check_records.ensures.1 ∙ sym (outcome_fault _ f); image_after = sym (after_fault _ _ f); updates = updates_of _ _ }

pub write_records-requires : goal.write_records-requires
write_records-requires c =
    let p = passes _ _ c.in_ok-sizes.ensures.answer in
    let b = bounds 2 _ _ _ _ _ (accepted_header _ (both_sound _ _ p.0)) p.1 in
    (b.0, b.1, b.2, sym c.in_ok-check_records.ensures)

pub returns : goal.returns
unfolding update_outcome
returns c =
    let f = decided _ _ c.in_ok-sizes.ensures.answer c.in_ok-check_records.ensures in
    record { result_value = sym (outcome_sound _ f); image_after = image_written _ _ _ f (passes _ _ c.in_ok-sizes.ensures.answer).1 c.in_ok-sizes.ensures.bytes c.write_records.ensures; updates = updates_of _ _ }
