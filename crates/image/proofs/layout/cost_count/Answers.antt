-- `image::layout::cost_count` meets its contract. Assumes nothing.
use native.Mathlib.Nat.{mul-le-mul}
use mathlib.Core.Path.{refl}
use Rattle.image.proofs.layout.cost_count.Goals as goal

pub returns : goal.returns
returns c = (refl, mul-le-mul c.requires.0 c.requires.1)
