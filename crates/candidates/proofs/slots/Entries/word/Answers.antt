-- `slots::Entries::word` reads a word of the slot that stands at a place. Assumes nothing.
use Prim.Native.Nat.{ℕ, ◌+◌}
use mathlib.Core.Path.{◌∙◌, ap}
use lib.ListN.{get_or}
use Rattle.candidates.specs.Slots.{order}
use Rattle.candidates.proofs.EntryLaws.{word_of}
use Rattle.candidates.proofs.slots.Entries.word.Goals as goal

pub returns : goal.returns
returns c = ap (λ (i : ℕ). get_or c.args.self.now.work.now (i + c.args.k) 0) c.words_from.ensures.0 ∙ word_of c.args.self.now.nodes c.args.self.now.work.now (order c.args.self.now.nodes c.args.self.now.work.now c.args.place) c.args.k c.requires.1
