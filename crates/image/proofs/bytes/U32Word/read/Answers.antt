-- `image::bytes::U32Word::read` meets its contract. Assumes nothing.
use native.Mathlib.Omega.{arith}
use Rattle.image.proofs.ByteLaws.{field_4}
use Rattle.image.proofs.bytes.U32Word.read.Goals as goal

pub returns : goal.returns
returns c = omega (arith, field_4 c.args.buffer.now c.args.at c.requires, c.from_le_bytes.ensures)
