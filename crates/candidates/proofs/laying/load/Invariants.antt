-- `laying::load` copies words. The loop: the first i are copied. Assumes nothing.
use Rattle.std.proofs.Common.{◌≡◌, take}
use Rattle.candidates.proofs.laying.load.Given as goal

abbrev pub invariant-loop-i : goal.invariant-loop-i
invariant-loop-i l = take l.i l.nodes ≡ take l.i l.words
