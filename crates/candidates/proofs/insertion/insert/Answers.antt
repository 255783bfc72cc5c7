-- `insertion::insert` uses the first free slot, or that of the last entry. Assumes nothing.
use Prim.Native.Nat.{ℕ, ◌+◌, ◌*◌, ◌-◌, ◌≤◌, ◌<◌}
use native.Mathlib.Omega.{arith}
use mathlib.Core.Path.{subst}
use lib.ListN.{length}
use Rattle.candidates.specs.Slots.{entry, order}
use Rattle.candidates.specs.Keeping.{Inserted}
use Rattle.candidates.proofs.SlotLaws.{slot_in}
use Rattle.candidates.proofs.InsertionLaws.{put_inserted}
use Rattle.candidates.proofs.insertion.insert.Goals as goal

pub put-requires : goal.put-requires
put-requires c =
    let requires : (last : ℕ) → c.args.place ≤ last → last < c.args.slots → ((c.args.place ≤ last) × (last * (c.args.n + 16) + (c.args.n + 16) ≤ length c.args.work.now) × (order c.args.n c.args.work.now last * (c.args.n + 16) + (c.args.n + 16) ≤ length c.args.work.now)) × ((length c.args.new.now.tail.now ≤ c.args.n) × (c.args.n ≤ 200)) = λ last h b. let s = c.args.n + 16 in ((h, slot_in s last b c.requires.kept.room, slot_in s (order c.args.n c.args.work.now last) (c.requires.kept.within last b) c.requires.kept.room), (c.requires.tail_short, c.requires.kept.few)) in
    let both = requires (c.args.count - 1) (omega arith) (omega arith) in
    record { inside = both.0; tail_short = both.1 }

pub returns-then-count-slots : goal.returns-then-count-slots
returns-then-count-slots c =
    let e = entry c.args.new.now.cost c.args.new.now.shared c.args.new.now.parent c.args.new.now.tail.now in
    subst (λ (r : ℕ). Inserted c.args.n c.args.slots c.args.place e c.args.work.now c.args.count c.put.new.work r) (omega arith)
    (put_inserted c.requires.kept c.put.ensures (omega arith) (omega arith) (omega arith) (omega arith) c.put.auto.work)

pub put-requires-2 : goal.put-requires-2
put-requires-2 c =
    let requires : (last : ℕ) → c.args.place ≤ last → last < c.args.slots → ((c.args.place ≤ last) × (last * (c.args.n + 16) + (c.args.n + 16) ≤ length c.args.work.now) × (order c.args.n c.args.work.now last * (c.args.n + 16) + (c.args.n + 16) ≤ length c.args.work.now)) × ((length c.args.new.now.tail.now ≤ c.args.n) × (c.args.n ≤ 200)) = λ last h b. let s = c.args.n + 16 in ((h, slot_in s last b c.requires.kept.room, slot_in s (order c.args.n c.args.work.now last) (c.requires.kept.within last b) c.requires.kept.room), (c.requires.tail_short, c.requires.kept.few)) in
    let both = requires c.args.count (omega arith) (omega (arith, c.requires.kept.upto)) in
    record { inside = both.0; tail_short = both.1 }

pub returns : goal.returns
returns c = put_inserted c.requires.kept c.put-2.ensures c.requires.inside.0 (omega (arith, c.requires.kept.upto)) (omega arith) (omega (arith, c.requires.kept.upto)) c.put-2.auto.work
