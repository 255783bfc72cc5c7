-- `queue::smallest` returns a place of the ring between its ends. The loop: the best place so far is one. Assumes nothing.
use Prim.Native.Nat.{◌≤◌}
use Rattle.labels.specs.Queue.{Held}
use Rattle.labels.proofs.queue.smallest.Given as goal

abbrev pub invariant-loop-j : goal.invariant-loop-j
invariant-loop-j l = (l.j ≤ l.count) × Held l.first l.count l.best
