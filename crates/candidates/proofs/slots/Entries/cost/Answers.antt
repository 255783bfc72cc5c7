-- `slots::Entries::cost` puts the cost together from two words. Assumes nothing.
use native.Mathlib.Omega.{arith}
use Rattle.candidates.specs.Slots.{entry_at, decode}
use Rattle.candidates.proofs.slots.Entries.cost.Goals as goal

pub returns : goal.returns
unfolding entry_at decode
returns c = omega arith
