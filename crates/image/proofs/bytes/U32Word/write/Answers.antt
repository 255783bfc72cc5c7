-- `image::bytes::U32Word::write` meets its contract. Assumes nothing.
use mathlib.Core.Path.{◌∙◌}
use Rattle.image.proofs.ByteLaws.{put_bytes, bytes_4}
use Rattle.image.proofs.bytes.U32Word.write.Goals as goal

pub returns : goal.returns
returns c = put_bytes 4 c.args.at c.args.buffer.now (c.copy_from_slice.ensures.after ∙ c.to_le_bytes.ensures ∙ bytes_4 c.args.self)
