-- `slots::Entries::tail_length` reads the length that is noted, which is the tail's. Assumes nothing.
use native.Mathlib.Omega.{arith}
use mathlib.Core.Path.{◌∙◌}
use Rattle.candidates.proofs.slots.Entries.tail_length.Goals as goal

pub returns : goal.returns
returns c = c.word.ensures ∙ c.args.self.now.readable.whole c.args.place (omega arith)
