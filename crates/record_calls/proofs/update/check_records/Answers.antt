-- `record_calls::update::check_records`: the first record with a row that applies decides. Assumes nothing.
use Prim.Native.Nat.{ℕ, ◌*◌, ◌≤◌, ◌<◌}
use native.Mathlib.Omega.{arith}
use mathlib.Core.Path.{◌≡◌, sym, ◌∙◌, ap}
use lib.ListN.{length, get_or, drop, length-drop}
use Rattle.image.proofs.AnswerLaws.{handed_verdict}
use Rattle.record_calls.specs.Records.{record_of, record_list}
use Rattle.record_calls.specs.Calls.{record_fault, records_fault}
use Rattle.record_calls.proofs.RecordLaws.{length_list, chunk_low, chunk_left, chunk_is, record_found, record_passed, records_end}
use Rattle.record_calls.proofs.update.check_records.Goals as goal

pub loop-i-init : goal.loop-i-init
loop-i-init c =
    let l = c.args.records.now in
    let made = c.into_iter-i-iterator.ensures.into_iter_gives in
    let source = c.enumerate-i-items.ensures.source in
    let none : c.into_iter-i-iterator.result.count ≡ 0 = ap (λ e. e.count) made ∙ c.enumerate-i-items.ensures.count in (
      ap (λ e. e.iter.size) made ∙ ap (λ e. e.size) source ∙ c.chunks_exact.ensures.size,
      ap (λ e. e.iter.rest.now) made ∙ ap (λ e. e.rest.now) source ∙ c.chunks_exact.ensures.rest ∙ ap (λ (n : ℕ). drop (4 * n) l) (sym none),
      ap (λ (n : ℕ). records_fault c.args.sizes.edition c.args.sizes.m c.args.sizes.k n (drop n (record_list l))) (sym none),
    )

pub loop-i-preserved : goal.loop-i-preserved
loop-i-preserved c =
    let l = c.args.records.now in
    let step = c.in-Some.ensures.steps in
    let chunk = step.0.1 in
    let long = chunk.1 ∙ c.loop-i.invariant.0 in
    let i = c.loop-i.i-iterator.count in
    let here : i < length (record_list l) = omega (arith, length_list l, chunk_low l _ _ _ i c.loop-i.invariant.1 chunk.0 long) in
    let is = chunk_is l _ _ _ i c.loop-i.invariant.1 chunk.0 long in
    let x = c.in-Some.record.now in
    let passed = ap (λ (n : ℕ). record_fault c.args.sizes.edition c.args.sizes.m c.args.sizes.k n (record_of (get_or x 0 0) (get_or x 1 0) (get_or x 2 0) (get_or x 3 0))) (sym step.1) ∙ sym (c.in_ok-check_record.ensures (get_or x 3 0)) in (
      step.0.0 ∙ c.loop-i.invariant.0,
      chunk_left l _ _ _ i c.loop-i.invariant.1 chunk.0 long ∙ ap (λ (n : ℕ). drop (4 * n) l) (sym step.2),
      c.loop-i.invariant.2 ∙ record_passed _ _ _ _ _ here is passed ∙ ap (λ (n : ℕ). records_fault c.args.sizes.edition c.args.sizes.m c.args.sizes.k n (drop n (record_list l))) (sym step.2),
    )

pub returns-in_err-check_record : goal.returns-in_err-check_record
returns-in_err-check_record c =
    let l = c.args.records.now in
    let step = c.in-Some.ensures.steps in
    let chunk = step.0.1 in
    let long = chunk.1 ∙ c.loop-i.invariant.0 in
    let i = c.loop-i.i-iterator.count in
    let here : i < length (record_list l) = omega (arith, length_list l, chunk_low l _ _ _ i c.loop-i.invariant.1 chunk.0 long) in
    let is = chunk_is l _ _ _ i c.loop-i.invariant.1 chunk.0 long in
    let x = c.in-Some.record.now in
    let found = ap (λ (n : ℕ). record_fault c.args.sizes.edition c.args.sizes.m c.args.sizes.k n (record_of (get_or x 0 0) (get_or x 1 0) (get_or x 2 0) (get_or x 3 0))) (sym step.1) ∙ sym (c.in_err-check_record.ensures (get_or x 3 0)) in
    handed_verdict _ _ c.from_residual.ensures.1 ∙ sym (c.loop-i.invariant.2 ∙ record_found _ _ _ _ _ here is found)

pub returns : goal.returns
returns c =
    let l = c.args.records.now in
    let i = c.loop-i.i-iterator.count in
    let short = c.in-None.ensures.steps.0.1.0 in
    let done : length (record_list l) ≤ i = omega (arith, short, c.loop-i.invariant.0, ap length c.loop-i.invariant.1, length-drop (4 * i) l, length_list l) in
    sym (c.loop-i.invariant.2 ∙ records_end _ _ _ _ _ done)
