-- `insertion::store` copies nodes. The loop: the first i are copied. Assumes nothing.
use Rattle.std.proofs.Common.{◌≡◌, take}
use Rattle.candidates.proofs.insertion.store.Given as goal

abbrev pub invariant-loop-i : goal.invariant-loop-i
invariant-loop-i l = take l.i l.words ≡ take l.i l.nodes
