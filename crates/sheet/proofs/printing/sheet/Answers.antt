-- `sheet::printing::sheet` meets its contract. Assumes nothing.
use Prim.Native.Nat.{ℕ}
use mathlib.Core.Path.{◌≡◌, sym, ◌∙◌, ap}
use mathlib.Core.List.{List, [], ◌∷◌, ◌++◌}
use lib.ListN.{length, drop}
use Rattle.image.specs.Outcome.{gives}
use Rattle.image.proofs.OutcomeLaws.{outcome_fault, outcome_sound, after_fault, after_sound}
use Rattle.sheet.specs.Sheet.{sheet as Sheet·sheet}
use Rattle.sheet.specs.Answers.{sheet_outcome}
use Rattle.sheet.proofs.PrintLaws.{too_short, long_enough}
use Rattle.sheet.proofs.printing.sheet.Goals as goal

pub returns-then-text-lt1024 : goal.returns-then-text-lt1024
unfolding sheet_outcome
returns-then-text-lt1024 c =
    let e = too_short (length c.args.text.now) c.if-text-lt1024.true in
    record { result_value = sym (outcome_fault _ e); text_after = sym (after_fault _ _ e) }

pub returns : goal.returns
unfolding sheet_outcome
returns c =
    let ok = long_enough (length c.args.text.now) c.if-text-lt1024.false in
    let s : c.answer_page-page.result.items ≡ Sheet·sheet c.args.image.now = c.answer_page-page.ensures ∙ c.decide-answer.ensures.told in
    let n : c.len-length.result ≡ length (Sheet·sheet c.args.image.now) = c.len-length.ensures.value ∙ ap length s in
    record {
      result_value = ap (λ (i : ℕ). gives (i ∷ [])) n ∙ sym (outcome_sound _ ok);
      text_after = ap (λ (l : List ℕ). l ++ drop c.len-length.result c.args.text.now) (c.copy_from_slice.ensures.after ∙ c.as_slice.ensures.value ∙ s)
          ∙ ap (λ (i : ℕ). Sheet·sheet c.args.image.now ++ drop i c.args.text.now) n
          ∙ sym (after_sound _ _ ok);
    }
