-- `sheet::lines::write_choice` meets its contract. Assumes nothing.
use Rattle.sheet.specs.Sheet.{regret_line, choice_lines}
use Rattle.sheet.proofs.TextLaws.{grown_both}
use Rattle.sheet.proofs.lines.write_choice.Goals as goal

pub returns : goal.returns
unfolding choice_lines regret_line
returns c = grown_both c.write_route.ensures c.write_pair.ensures
