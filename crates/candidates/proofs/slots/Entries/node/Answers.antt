-- `slots::Entries::node` reads a word behind the first fifteen. Assumes nothing.
use Prim.Native.Nat.{◌≤◌, ◌<◌}
use native.Mathlib.Omega.{arith}
use mathlib.Core.Path.{◌∙◌}
use Rattle.candidates.specs.Slots.{order, entry_at}
use Rattle.candidates.proofs.EntryLaws.{node_of, tail_short}
use Rattle.candidates.proofs.slots.Entries.node.Goals as goal

pub word-requires : goal.word-requires
unfolding entry_at
word-requires c =
    let room : (c.args.i < c.args.self.now.nodes) × (c.args.self.now.nodes ≤ 200) = (omega (arith, c.requires.1, tail_short c.args.self.now.nodes c.args.self.now.work.now (order c.args.self.now.nodes c.args.self.now.work.now c.args.place)), c.args.self.now.readable.few) in
    (c.requires.0, omega (arith, room))

pub returns : goal.returns
unfolding entry_at
returns c = c.word.ensures ∙ node_of c.args.self.now.nodes c.args.self.now.work.now (order c.args.self.now.nodes c.args.self.now.work.now c.args.place) c.args.i c.requires.1

pub overflow_add-i : goal.overflow_add-i
unfolding entry_at
overflow_add-i c =
    let room : (c.args.i < c.args.self.now.nodes) × (c.args.self.now.nodes ≤ 200) = (omega (arith, c.requires.1, tail_short c.args.self.now.nodes c.args.self.now.work.now (order c.args.self.now.nodes c.args.self.now.work.now c.args.place)), c.args.self.now.readable.few) in
    omega (arith, room)
