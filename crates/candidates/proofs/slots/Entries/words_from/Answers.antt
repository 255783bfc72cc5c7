-- `slots::Entries::words_from` computes where the slot that stands at a place begins. Assumes nothing.
use Prim.Native.Nat.{◌+◌, ◌*◌, ◌≤◌}
use native.Mathlib.Omega.{arith}
use mathlib.Core.Path.{refl}
use lib.ListN.{length}
use Rattle.candidates.specs.Slots.{order}
use Rattle.candidates.proofs.slots.Entries.words_from.Goals as goal

pub returns : goal.returns
unfolding order
returns c =
    let inside : order c.args.self.now.nodes c.args.self.now.work.now c.args.place * (c.args.self.now.nodes + 16) + (c.args.self.now.nodes + 16) ≤ length c.args.self.now.work.now = c.args.self.now.readable.slot_in c.args.place (omega arith) in
    (refl, omega (arith, inside))
