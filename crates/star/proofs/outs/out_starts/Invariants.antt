-- `outs::out_starts` goes through nodes and arcs side by side. The loops: the tails before i are below v, and the places of the nodes below v are found.
-- Assumes nothing.
use Prim.Native.Nat.{◌-◌}
use lib.ListN.{length}
use Rattle.star.proofs.StarLaws.{Before, Cutting}
use Rattle.star.proofs.outs.out_starts.Given as goal

abbrev pub invariant-loop-v : goal.invariant-loop-v
invariant-loop-v l = Cutting l.tails l.i l.v l.first_out

abbrev pub invariant-loop-i : goal.invariant-loop-i
invariant-loop-i l = Before l.tails l.i l.v

abbrev pub decreases-loop-i : goal.decreases-loop-i
decreases-loop-i l = length l.tails - l.i
