-- `chains::chain` builds the chains. The loop: the arcs below i are chained. Assumes nothing.
use Rattle.star.proofs.ChainLaws.{Chained}
use Rattle.star.proofs.chains.chain.Given as goal

abbrev pub invariant-loop-i : goal.invariant-loop-i
invariant-loop-i l = Chained l.heads l.first_in l.next_in l.i
