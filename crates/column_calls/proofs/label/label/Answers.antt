-- `label::label` writes the labels where no row applies, and else nothing. Assumes nothing.
use Prim.Native.Nat.{ℕ}
use mathlib.Core.Path.{◌≡◌, sym, ◌∙◌, ap}
use mathlib.Core.List.{List, ◌++◌}
use lib.ListN.{drop}
use Rattle.image.specs.Outcome.{sound, gives, outcome}
use Rattle.image.specs.Calls.{sizes}
use Rattle.image.specs.Answers.{size_list}
use Rattle.image.specs.declared.check.Sizes.{Sizes}
use Rattle.image.proofs.AnswerLaws.{handed_on}
use Rattle.image.proofs.OutcomeLaws.{refuses_fault, outcome_fault, outcome_sound, after_fault, after_sound}
use Rattle.outcomes.specs.Calls.{label_fault, label_outcome, labels_of}
use Rattle.loading.specs.Accepted.{Accepted}
use Rattle.outcomes.proofs.LabelLaws.{length_labels}
use Rattle.outcomes.proofs.RowLaws.{given_sizes, label_sound}
use Rattle.column_calls.proofs.label.label.Goals as goal

-- sizes are given only where no row of Label applies
passes : {b : List ℕ} (u t room : ℕ) {z : Sizes} → gives (size_list z) ≡ outcome (label_fault b u t room) (sizes b) → (label_fault b u t room ≡ sound) × Accepted b z
passes u t room e = given_sizes _ (λ h. (label_sound _ _ _ _ h).accepted) e

pub returns-in_err-sizes : goal.returns-in_err-sizes
unfolding label_outcome
returns-in_err-sizes c =
    let e = refuses_fault _ _ c.in_err-sizes.ensures in
    record { result_value = handed_on _ _ _ c.from_residual.ensures.1 ∙ sym (outcome_fault _ e); labels_after = sym (after_fault _ _ e) }

pub write_labels-requires : goal.write_labels-requires
write_labels-requires c =
    let g = label_sound _ _ _ _ (passes _ _ _ c.in_ok-sizes.ensures).0 in
    record { column = record { from = g.from; upto = g.upto }; goal = g.goal; room = g.room_for }

pub returns : goal.returns
unfolding label_outcome labels_of
returns c =
    let e = (passes _ _ _ c.in_ok-sizes.ensures).0 in
    record { result_value = sym (outcome_sound _ e); labels_after = c.write_labels.ensures ∙ ap (λ (n : ℕ). labels_of c.args.image.now c.args.column c.args.goal ++ drop n c.args.labels.now) (sym (length_labels _ _ _)) ∙ sym (after_sound _ _ e) }

pub invariant_of-network : goal.invariant_of-network
invariant_of-network c = record { accepted = (passes _ _ _ c.in_ok-sizes.ensures).1 }
