-- `sheet::lines::write_node` meets its contract. Assumes nothing.
use Rattle.sheet.specs.Sheet.{node_text}
use Rattle.sheet.proofs.TextLaws.{grown_both}
use Rattle.sheet.proofs.lines.write_node.Goals as goal

pub returns : goal.returns
unfolding node_text
returns c = grown_both c.write_word.ensures c.write_number.ensures
