-- `record_calls::update::write_records` meets its contract. Assumes nothing.
use Prim.Native.Nat.{ℕ, ◌*◌}
use mathlib.Core.Path.{◌≡◌}
use mathlib.Core.List.{List, ◌++◌}
use lib.ListN.{length, take, drop}
use Rattle.image.specs.Bytes.{encode}
use Rattle.record_calls.specs.Records.{record_list}
use Rattle.record_calls.proofs.StepLaws.{stamps_run, costs_run}
use Rattle.record_calls.proofs.update.write_records.Given as goal

abbrev pub invariant-loop-record : goal.invariant-loop-record
invariant-loop-record l = record {
  four : l.record-iterator.size ≡ 4;
  left : l.record-iterator.rest.now ≡ drop (4 * length l.yielded) l.records;
  stamped : l.stamps ≡ stamps_run l.m l.initial.stamps (take (length l.yielded) (record_list l.records));
  costed : (costs : List ℕ) → length costs ≡ length l.initial.stamps → l.initial.image ≡ take l.start l.initial.image ++ encode 4 costs
      → l.image ≡ take l.start l.initial.image ++ encode 4 (costs_run l.m l.initial.stamps costs (take (length l.yielded) (record_list l.records)));
}
