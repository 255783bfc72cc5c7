-- `image::bytes::U16Word::read` meets its contract. Assumes nothing.
use native.Mathlib.Omega.{arith}
use Rattle.image.proofs.ByteLaws.{field_2}
use Rattle.image.proofs.bytes.U16Word.read.Goals as goal

pub returns : goal.returns
returns c = omega (arith, field_2 c.args.buffer.now c.args.at c.requires, c.from_le_bytes.ensures)
