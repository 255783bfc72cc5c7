-- `search::spread` follows arc after arc. The loop: no node is taken. Assumes nothing.
use Rattle.sharpening.specs.Sharp.{Same}
use Rattle.sharpening.proofs.search.spread.Given as goal

abbrev pub invariant-loop-i : goal.invariant-loop-i
invariant-loop-i l = Same l.initial.front l.front
