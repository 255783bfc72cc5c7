-- `insertion::shift` moves slot numbers one place on, from the last to the first. The loop: those from place p on have moved. Assumes nothing.
use Prim.Native.Nat.{ℕ, ◌+◌, ◌-◌}
use native.Mathlib.Nat.{mul-le-mul_right}
use native.Mathlib.Omega.{arith}
use mathlib.Core.Path.{◌≡◌, refl, subst}
use Rattle.candidates.specs.Slots.{order}
use Rattle.candidates.proofs.InsertionLaws.{Moving, moving_none, moving_more, shifted}
use Rattle.candidates.proofs.insertion.shift.Goals as goal

pub loop-p-init : goal.loop-p-init
loop-p-init c = (omega arith, moving_none)

pub loop-p-preserved : goal.loop-p-preserved
unfolding order
loop-p-preserved c =
    let next : c.loop-p.p ≡ c.loop-p.p - 1 + 1 = omega arith in
    let now : Moving c.args.n (c.loop-p.p - 1 + 1) c.args.last c.args.work.now c.loop-p.work = subst (λ (p : ℕ). Moving c.args.n p c.args.last c.args.work.now c.loop-p.work) next c.loop-p.invariant.1 in
    (omega arith, moving_more now (omega (arith, mul-le-mul_right {m = c.loop-p.p - 1 + 1} {n = c.args.last} (c.args.n + 16) (omega arith))) (omega arith) (c.loop-p.p - 1) refl)

pub returns : goal.returns
unfolding order
returns c =
    let done : c.loop-p.p ≡ c.args.place = omega arith in
    let moved : Moving c.args.n c.args.place c.args.last c.args.work.now c.loop-p.work = subst (λ (p : ℕ). Moving c.args.n p c.args.last c.args.work.now c.loop-p.work) done c.loop-p.invariant.1 in
    record { value = refl; shifted = shifted moved (omega (arith, mul-le-mul_right {m = c.args.place} {n = c.args.last} (c.args.n + 16) (omega arith))) (omega arith) refl }
