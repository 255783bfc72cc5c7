-- `image::bytes::U16Word::write` meets its contract. Assumes nothing.
use mathlib.Core.Path.{◌∙◌}
use Rattle.image.proofs.ByteLaws.{put_bytes, bytes_2}
use Rattle.image.proofs.bytes.U16Word.write.Goals as goal

pub returns : goal.returns
returns c = put_bytes 2 c.args.at c.args.buffer.now (c.copy_from_slice.ensures.after ∙ c.to_le_bytes.ensures ∙ bytes_2 c.args.self)
