-- `slots::Entries::shared` reads the entry's third word. Assumes nothing.
use Rattle.candidates.specs.Slots.{entry_at, decode}
use Rattle.candidates.proofs.slots.Entries.shared.Goals as goal

pub returns : goal.returns
unfolding entry_at decode
returns c = c.word.ensures
