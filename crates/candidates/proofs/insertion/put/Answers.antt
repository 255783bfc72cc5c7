-- `insertion::put` changes the order, and then the words of the slot that was moved up. Assumes nothing.
use Prim.Native.Nat.{ℕ, ◌+◌, ◌*◌, ◌≤◌}
use native.Mathlib.Omega.{arith}
use mathlib.Core.Path.{◌≡◌, sym, subst, ◌∙◌, ap}
use mathlib.Core.List.{List}
use lib.ListN.{length, get_or}
use borrow.Rule.Slice.PartMut.{mid_len}
use Rattle.candidates.specs.Slots.{decode}
use Rattle.candidates.proofs.InsertionLaws.{put_new, replaced_low, replaced_high, replaced_slot}
use Rattle.candidates.proofs.insertion.put.Goals as goal

pub returns : goal.returns
returns c =
    let inside : c.shift.result * (c.args.n + 16) + (c.args.n + 16) ≤ length c.shift.new.work = let h : c.shift.result * (c.args.n + 16) + (c.args.n + 16) ≤ length c.args.work.now = subst (λ (i : ℕ). i * (c.args.n + 16) + (c.args.n + 16) ≤ length c.args.work.now) (sym c.shift.ensures.value) c.requires.inside.2 in omega (arith, c.shift.auto.work) in
    let long : length c.write.new.words ≡ c.args.n + 15 = omega (arith, c.write.auto.words, mid_len (c.shift.result * (c.args.n + 16) + 1) (c.shift.result * (c.args.n + 16) + 1 + (c.args.n + 15)) c.shift.new.work (omega (arith, inside))) in
    let e = replaced_slot c.args.n c.shift.result c.shift.new.work c.write.new.words inside long in
    put_new c.shift.ensures.value c.shift.ensures.shifted (replaced_low c.args.n c.shift.result c.shift.new.work c.write.new.words inside long) (replaced_high c.args.n c.shift.result c.shift.new.work c.write.new.words inside long) (ap decode e ∙ c.write.ensures.holds) (ap (λ (x : List ℕ). get_or x 4 0) e ∙ c.write.ensures.length_noted)
