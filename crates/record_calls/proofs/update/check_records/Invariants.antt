-- `record_calls::update::check_records`: the records from i on decide. Assumes nothing.
use Prim.Native.Nat.{◌*◌}
use mathlib.Core.Path.{◌≡◌}
use lib.ListN.{drop}
use Rattle.record_calls.specs.Records.{record_list}
use Rattle.record_calls.specs.Calls.{records_fault}
use Rattle.record_calls.proofs.update.check_records.Given as goal

abbrev pub invariant-loop-i : goal.invariant-loop-i
invariant-loop-i l = (l.i-iterator.iter.size ≡ 4) × (l.i-iterator.iter.rest.now ≡ drop (4 * l.i-iterator.count) l.records)
    × (records_fault l.sizes.edition l.sizes.m l.sizes.k 0 (record_list l.records) ≡ records_fault l.sizes.edition l.sizes.m l.sizes.k l.i-iterator.count (drop l.i-iterator.count (record_list l.records)))
