-- `sheet::lines::write_pair` meets its contract. Assumes nothing.
use Rattle.sheet.specs.Sheet.{two_numbers}
use Rattle.sheet.proofs.TextLaws.{grown_both}
use Rattle.sheet.proofs.lines.write_pair.Goals as goal

pub returns : goal.returns
unfolding two_numbers
returns c = grown_both c.write_word.ensures (grown_both c.write_number.ensures (grown_both c.write_word-2.ensures (grown_both c.write_number-2.ensures c.write_word-3.ensures)))
