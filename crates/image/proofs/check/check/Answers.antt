-- `image::check::check` meets its contract. Assumes nothing.
use Rattle.image.specs.Calls.{image_fault, check_outcome}
use Rattle.image.proofs.check.check.Goals as goal

pub returns : goal.returns
unfolding check_outcome image_fault
returns c = c.check_taken.ensures
