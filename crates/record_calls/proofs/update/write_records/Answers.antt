-- `record_calls::update::write_records` meets its contract. Assumes nothing.
use Prim.Native.Nat.{ℕ, ◌+◌, ◌*◌, ◌≤◌, ◌<◌}
use native.Mathlib.Omega.{arith}
use mathlib.Core.Path.{◌≡◌, refl, sym, ◌∙◌, ap, ap₂}
use mathlib.Core.List.{List, [], ◌∷◌, ◌++◌}
use lib.ListN.{length, take, drop, replicate, length-append, length-drop}
use lib.Seq.{take_all, length-take-le}
use Rattle.terms.proofs.RoomLaws.{part_long, part_zero}
use Rattle.image.specs.Bytes.{encode}
use Rattle.image.proofs.CheckLaws.{total_is}
use Rattle.record_calls.specs.Records.{record_list}
use Rattle.record_calls.proofs.RecordLaws.{length_list, chunk_low, chunk_left, chunk_is, chunk_fits, all_fit, place_fits}
use Rattle.record_calls.proofs.StepLaws.{stamps_step, stamps_run, costs_run, stamps_next, image_next, run_is}
use Rattle.record_calls.proofs.update.write_records.Goals as goal

pub loop-record-init : goal.loop-record-init
unfolding stamps_run costs_run
loop-record-init c =
    let made = c.into_iter-record-iterator.ensures.into_iter_gives in
    record { four = ap (λ e. e.size) made ∙ c.chunks_exact-record-items.ensures.size; left = ap (λ e. e.rest.now) made ∙ c.chunks_exact-record-items.ensures.rest; stamped = refl; costed = λ costs long e. e }

pub overflow_sub-place : goal.overflow_sub-place
overflow_sub-place c =
    let chunk = c.in-Some.ensures.steps.1 in
    (chunk_fits c.args.records.now _ _ _ (length c.loop-record.yielded) c.loop-record.invariant.left chunk.0 (chunk.1 ∙ c.loop-record.invariant.four) c.requires.3).column_from

pub write_record-requires : goal.write_record-requires
write_record-requires c =
    let chunk = c.in-Some.ensures.steps.1 in
    let low = place_fits (chunk_fits c.args.records.now _ _ _ (length c.loop-record.yielded) c.loop-record.invariant.left chunk.0 (chunk.1 ∙ c.loop-record.invariant.four) c.requires.3) in
    let fresh = part_long 8000 _ c.cost_count.ensures.1 ∙ c.cost_count.ensures.0 in
    (omega (arith, low, fresh, c.loop-record.auto.stamps), omega (arith, low, c.loop-record.auto.image, c.requires.2, total_is c.args.sizes.m c.args.sizes.k, c.costs_start-start.ensures))

pub loop-record-preserved : goal.loop-record-preserved
unfolding stamps_step
loop-record-preserved c =
    let l = c.args.records.now in
    let records = record_list l in
    let m = c.args.sizes.m in
    let start = c.costs_start-start.result in
    let i = length c.loop-record.yielded in
    let step = c.in-Some.ensures.steps in
    let chunk = step.1 in
    let four = chunk.1 ∙ c.loop-record.invariant.four in
    let here : i < length records = omega (arith, length_list l, chunk_low l _ _ _ i c.loop-record.invariant.left chunk.0 four) in
    let read = chunk_is l _ _ _ i c.loop-record.invariant.left chunk.0 four in
    let low = place_fits (chunk_fits l _ _ _ i c.loop-record.invariant.left chunk.0 four c.requires.3) in
    let more : length (c.loop-record.yielded ++ (c.in-Some.record ∷ [])) ≡ i + 1 = length-append c.loop-record.yielded (c.in-Some.record ∷ []) in
    let fresh = part_long 8000 _ c.cost_count.ensures.1 ∙ c.cost_count.ensures.0 in
    let none : List ℕ = take c.cost_count.result (replicate 8000 0) in
    let room : start ≤ length c.args.image.now = omega (arith, c.requires.2, total_is m c.args.sizes.k, c.costs_start-start.ensures) in
    record {
      four = step.0 ∙ c.loop-record.invariant.four;
      left = chunk_left l _ _ _ i c.loop-record.invariant.left chunk.0 four ∙ ap (λ (n : ℕ). drop (4 * n) l) (sym more);
      stamped = c.write_record.ensures.stamps_after ∙ stamps_next m records i here read none c.loop-record.stamps c.loop-record.invariant.stamped ∙ ap (λ (n : ℕ). stamps_run m none (take n records)) (sym more);
      costed = λ costs long e. c.write_record.ensures.image_after ∙ image_next m records i here read (take start c.args.image.now) start c.loop-record.image none c.loop-record.stamps costs (length-take-le start c.args.image.now room) (omega (arith, low, long, fresh)) c.loop-record.invariant.stamped (c.loop-record.invariant.costed costs long e)
          ∙ ap (λ (n : ℕ). take start c.args.image.now ++ encode 4 (costs_run m none costs (take n records))) (sym more);
    }

pub returns : goal.returns
returns c =
    let l = c.args.records.now in
    let records = record_list l in
    let i = length c.loop-record.yielded in
    let all = all_fit _ _ _ 0 _ c.requires.3 in
    let short = c.in-None.ensures.steps.1.0 in
    let done : length records ≤ i = omega (arith, short, c.loop-record.invariant.four, ap length c.loop-record.invariant.left, length-drop (4 * i) l, length_list l) in
    let none : List ℕ = take c.cost_count.result (replicate 8000 0) in
    let fresh : length none ≡ c.args.sizes.m * c.args.sizes.k = part_long 8000 _ c.cost_count.ensures.1 ∙ c.cost_count.ensures.0 in
    λ costs long e. let long' : length costs ≡ length none = long ∙ sym fresh in
    c.loop-record.invariant.costed costs long' (e ∙ ap (λ (x : ℕ). take x c.args.image.now ++ encode 4 costs) (sym c.costs_start-start.ensures)) ∙ ap₂ (λ (x : ℕ) (t : List ℕ). take x c.args.image.now ++ encode 4 t) c.costs_start-start.ensures (ap (costs_run c.args.sizes.m none costs) (take_all i records done) ∙ run_is none costs all (λ r f. omega (arith, place_fits f, fresh)) long' (part_zero 8000 c.cost_count.result))
