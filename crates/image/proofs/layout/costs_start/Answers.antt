-- `image::layout::costs_start` meets its contract. Assumes nothing.
use mathlib.Core.Path.{refl}
use Rattle.image.specs.Layout.{costs_start}
use Rattle.image.proofs.layout.costs_start.Goals as goal
use Rattle.image.proofs.layout.costs_start.Goals as goal

pub returns : goal.returns
unfolding costs_start
returns c = refl
