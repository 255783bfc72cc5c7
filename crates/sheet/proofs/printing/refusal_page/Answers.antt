-- `sheet::printing::refusal_page` meets its contract: the line fits. Assumes nothing.
use native.Mathlib.Omega.{arith}
use mathlib.Core.Path.{◌∙◌, ap₂}
use Rattle.sheet.specs.Sheet.{refused_line}
use Rattle.sheet.proofs.TextLaws.{grown_first}
use Rattle.sheet.proofs.LineLaws.{refused_short}
use Rattle.sheet.proofs.printing.refusal_page.Goals as goal

pub returns : goal.returns
unfolding refused_line
returns c =
    grown_first c.new-page.ensures c.write_pair.ensures (refused_short c.number.result c.place.result (omega (arith, c.number.type_inv)) (omega (arith, c.place.type_inv)))
    ∙ ap₂ refused_line c.number.ensures c.place.ensures
