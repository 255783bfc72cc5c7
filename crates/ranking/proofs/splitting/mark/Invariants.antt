-- `splitting::mark` flags node after node. The loop: the nodes so far are laid out. Assumes nothing.
use Rattle.std.proofs.Common.{length}
use Rattle.branching.specs.Laid.{Laid}
use Rattle.ranking.proofs.splitting.mark.Given as goal

abbrev pub invariant-loop-v : goal.invariant-loop-v
invariant-loop-v l = Laid (length l.initial.used) l.used l.path l.v-index
