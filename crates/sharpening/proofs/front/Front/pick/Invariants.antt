-- `Front::pick`: the best place so far is one of those that were not taken. Assumes nothing.
use Prim.Native.Nat.{◌≤◌, ◌<◌}
use Rattle.sharpening.proofs.front.Front.pick.Given as goal

abbrev pub invariant-loop-i : goal.invariant-loop-i
invariant-loop-i l = (l.from ≤ l.best) × (l.best < l.to)
