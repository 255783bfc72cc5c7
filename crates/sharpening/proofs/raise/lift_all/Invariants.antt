-- `raise::lift_all` lifts label after label. The loop: those of the first i nodes may be greater, and no others. Assumes nothing.
use Rattle.exits.specs.Small.{Small}
use Rattle.sharpening.specs.Sharp.{Lifted}
use Rattle.sharpening.proofs.raise.lift_all.Given as goal

abbrev pub invariant-loop-node : goal.invariant-loop-node
invariant-loop-node l = Small l.front.places l.labels × Lifted l.goal l.front.taken l.node-index l.initial.labels l.labels
