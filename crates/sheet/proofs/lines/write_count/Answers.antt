-- `sheet::lines::write_count` meets its contract. Assumes nothing.
use Rattle.sheet.specs.Sheet.{settled_line}
use Rattle.sheet.proofs.TextLaws.{grown_both}
use Rattle.sheet.proofs.lines.write_count.Goals as goal

pub returns : goal.returns
unfolding settled_line
returns c = grown_both c.write_word.ensures (grown_both c.write_number.ensures c.write_word-2.ensures)
