-- `excesses::greatest_excess`: the loop keeps the largest excess of the columns before, and the first that has it. Assumes nothing.
use Prim.Native.Nat.{◌+◌}
use Rattle.terms.proofs.LargestLaws.{SoFar}
use Rattle.measuring.specs.Steps.{excess}
use Rattle.measuring.proofs.excesses.greatest_excess.Given as goal

abbrev pub invariant-loop-i : goal.invariant-loop-i
invariant-loop-i l = SoFar (excess l.columns.arcs l.columns.costs.now l.bests l.arcs) (l.i + 1) l.greatest.figure l.greatest.worst
