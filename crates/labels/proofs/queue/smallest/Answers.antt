-- `queue::smallest` returns a place of the ring between its ends. The loop: the best place so far is one. Assumes nothing.
use Prim.Native.Nat.{◌+◌, ◌%◌}
use native.Mathlib.Omega.{arith}
use Rattle.labels.specs.Queue.{Held}
use Rattle.labels.proofs.QueueLaws.{held_at, held_first}
use Rattle.labels.proofs.queue.smallest.Goals as goal
use Rattle.labels.proofs.queue.smallest.Goals.{then-is_smaller, else-is_smaller}

pub loop-j-init : goal.loop-j-init
loop-j-init c = (omega arith, held_first _ _ c.requires.ends.0 c.requires.ends.1)

pub is_smaller-requires : goal.is_smaller-requires
is_smaller-requires c =
    let held : Held c.args.first c.args.count ((c.args.first + c.loop-j.j) % 256) = held_at _ _ c.loop-j.j c.requires.ends.0 (omega arith) (omega arith) in
    record { indices = (c.requires.ring.node_in ((c.args.first + c.loop-j.j) % 256) held.place, c.loop-j.invariant.1.place); ring = c.requires.ring }

pub loop-j-preserved : goal.loop-j-preserved
loop-j-preserved c =
    let held : Held c.args.first c.args.count ((c.args.first + c.loop-j.j) % 256) = held_at _ _ c.loop-j.j c.requires.ends.0 (omega arith) (omega arith) in
    (omega arith, elim c.if-is_smaller.branch [ then-is_smaller w ↦ rw w.best-is held | else-is_smaller w ↦ rw w.best-is c.loop-j.invariant.1 ])
