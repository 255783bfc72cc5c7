-- `arcs::find_arc` halves what is left. The loop: from what is left the rule goes on to what it comes to from the whole range. Assumes nothing.
use Rattle.star.proofs.SearchLaws.{Seeking}
use Rattle.star.proofs.arcs.find_arc.Given as goal

abbrev pub invariant-loop-left : goal.invariant-loop-left
invariant-loop-left l = Seeking l.tails l.heads l.arc l.fn.range.start l.fn.range.end l.first l.left l.looks

abbrev pub decreases-loop-left : goal.decreases-loop-left
decreases-loop-left l = l.left
