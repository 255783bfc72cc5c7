-- `walk::unmark` takes the last node off the path until `from` are left. The loop: the first i nodes are laid out. Assumes nothing.
use Prim.Native.Nat.{◌≤◌}
use lib.ListN.{length}
use Rattle.branching.specs.Laid.{Laid}
use Rattle.branching.proofs.walk.unmark.Given as goal

abbrev pub invariant-loop-i : goal.invariant-loop-i
invariant-loop-i l = (l.from ≤ l.i) × Laid (length l.initial.used) l.used l.path l.i
