-- `laying::Routes::place_for` halves the places that are left. The loop: the entry below `low` comes before the new one, that at `high` does not. Assumes nothing.
use Prim.Native.Nat.{◌+◌, ◌-◌, ◌/◌}
use native.Mathlib.Omega.{arith}
use mathlib.Core.Path.{◌≡◌, sym, ◌∙◌}
use Rattle.candidates.proofs.EntryLaws.{length_entries}
use Rattle.candidates.proofs.laying.Routes.place_for.Goals as goal

pub loop-low-init : goal.loop-low-init
loop-low-init c = (omega arith, c.requires, omega arith, (λ q h z. absurd (omega arith)), λ h. absurd (omega arith))

pub loop-low-preserved-then-entry_before : goal.loop-low-preserved-then-entry_before
loop-low-preserved-then-entry_before c =
    let t = sym c.entry_before.ensures ∙ c.if-entry_before.true in
    (omega arith, omega arith, c.loop-low.invariant.2, (λ q h z. let y : q ≡ (c.loop-low.low + (c.loop-low.high - c.loop-low.low) / 2) = omega arith in rw y t), c.loop-low.invariant.4)

pub loop-low-preserved : goal.loop-low-preserved
loop-low-preserved c =
    (c.loop-low.invariant.0, omega arith, omega arith, c.loop-low.invariant.3, λ h. sym c.entry_before.ensures ∙ c.if-entry_before.false)

pub returns : goal.returns
returns c =
    let n = length_entries c.args.self.now.entries.nodes c.args.self.now.entries.work.now c.args.self.now.entries.count in
    let z : c.loop-low.low ≡ c.loop-low.high = omega arith in
    record { lower = c.loop-low.invariant.0; upper = omega arith; last_before = c.loop-low.invariant.3; not_before = λ h. rw z (c.loop-low.invariant.4 (omega arith)) }
