-- `sheet::words::write_number` meets its contract: std's digits are those of the sheet. Assumes nothing.
use native.Mathlib.Omega.{arith}
use mathlib.Core.Path.{◌∙◌}
use Rattle.sheet.proofs.DecimalLaws.{std_decimal}
use Rattle.sheet.proofs.TextLaws.{grown_as}
use Rattle.sheet.proofs.words.write_number.Goals as goal

pub returns : goal.returns
returns c = grown_as (c.as_bytes.ensures.value ∙ c.format.ensures.text ∙ std_decimal c.args.x (omega arith)) c.write_word.ensures
