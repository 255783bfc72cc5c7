-- `relax::visit` is `relax`, and `mark` where the label fell. Assumes nothing.
use mathlib.Core.Path.{refl}
use Rattle.labels.specs.Search.{Visited}
use Rattle.labels.proofs.relax.visit.Goals as goal

pub returns-then-relax : goal.returns-then-relax
returns-then-relax c = Visited.marked (rw c.if-relax.true at c.relax.ensures) c.mark.ensures

pub returns-else-relax : goal.returns-else-relax
returns-else-relax c = Visited.same (rw c.if-relax.false at c.relax.ensures) refl
