-- `image::layout::image_length` meets its contract. Assumes nothing.
use native.Mathlib.Omega.{arith}
use Rattle.image.specs.Layout.{costs_start, total}
use Rattle.image.proofs.layout.image_length.Goals as goal
use Rattle.image.proofs.layout.image_length.Goals as goal

pub returns : goal.returns
unfolding total
returns c = omega (arith)

pub overflow_add-result : goal.overflow_add-result
unfolding costs_start
overflow_add-result c = omega (arith)
