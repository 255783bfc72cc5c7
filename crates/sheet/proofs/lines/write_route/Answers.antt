-- `sheet::lines::write_route` meets its contract. Assumes nothing.
use Rattle.sheet.specs.Sheet.{route_line}
use Rattle.sheet.proofs.TextLaws.{grown_both}
use Rattle.sheet.proofs.lines.write_route.Goals as goal

pub returns : goal.returns
unfolding route_line
returns c = grown_both c.write_word.ensures (grown_both c.write_nodes.ensures c.write_word-2.ensures)
