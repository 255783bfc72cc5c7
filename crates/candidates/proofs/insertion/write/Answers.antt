-- `insertion::write` writes five words and the tail, which make an entry. Assumes nothing.
use Prim.Native.Nat.{◌+◌, ◌*◌, ◌/◌}
use native.Mathlib.Omega.{arith}
use mathlib.Core.Path.{◌≡◌}
use lib.Bits.{bit_and}
use Rattle.std.proofs.lemmas.Nat.{and_mask}
use Rattle.candidates.proofs.InsertionLaws.{stored_entry}
use Rattle.candidates.proofs.insertion.write.Goals as goal

pub returns : goal.returns
returns c =
    let split : bit_and c.args.new.now.cost 4294967295 + 4294967296 * (c.args.new.now.cost / 4294967296) ≡ c.args.new.now.cost = omega (arith, and_mask c.args.new.now.cost 32) in
    let both = stored_entry c.args.new.now.cost _ _ c.args.new.now.shared c.args.new.now.parent c.args.words.now c.args.new.now.tail.now _ _ split (omega (arith, c.requires)) c.store.ensures in
    record { holds = both.0; length_noted = both.1 }
