-- `laying::Routes::set_bars` goes from parent to parent, and the place falls. The loop: the flags that are still to be set make up those of the contract. Assumes nothing.
use Prim.Native.Nat.{◌-◌}
use native.Mathlib.Omega.{arith}
use mathlib.Core.Path.{refl, ◌∙◌}
use Rattle.candidates.proofs.RootedLaws.{rooted_in, rooted_fits, parent_lower, leaves_late, leaves_early}
use Rattle.candidates.proofs.BarLaws.{own_marked, root_marked, parent_marked}
use Rattle.candidates.proofs.laying.Routes.set_bars.Goals as goal

pub loop-place-init : goal.loop-place-init
loop-place-init c = (omega arith, c.requires.in_tail.0, c.requires.in_tail.1, refl)

pub returns-then-at-shared : goal.returns-then-at-shared
returns-then-at-shared c =
    own_marked _ _ _ _ c.args.at c.args.self.now.family (omega arith) c.args.value c.loop-place.flags c.shared-shared.ensures c.node.ensures c.if-at-shared.true ∙ c.loop-place.invariant.3

pub returns-in_default : goal.returns-in_default
returns-in_default c =
    root_marked _ _ _ _ c.args.at c.args.self.now.family (omega arith) c.args.value c.loop-place.flags c.shared-shared.ensures c.node.ensures (rw c.in_default.is at c.parent.ensures) ∙ c.loop-place.invariant.3

pub loop-place-smaller : goal.loop-place-smaller
loop-place-smaller c =
    parent_lower _ _ _ (rooted_in c.args.self.now c.loop-place.p (omega arith)) c.in-Some.parent c.in-Some.ensures

pub loop-place-preserved : goal.loop-place-preserved
loop-place-preserved c =
    let rooted = rooted_in c.args.self.now c.loop-place.p (omega arith) in
    let r = c.in-Some.parent in
    let z = c.in-Some.ensures in (
      omega (arith, parent_lower _ _ _ rooted r z),
      omega (arith, leaves_late _ _ _ rooted r z),
      omega (arith, leaves_early _ _ _ rooted r z),
      parent_marked _ _ _ _ c.args.at c.args.self.now.family (omega arith) c.args.value c.loop-place.flags c.shared-shared.ensures c.node.ensures r (omega arith) z ∙ c.loop-place.invariant.3,
    )

pub bounds-flags-node : goal.bounds-flags-node
bounds-flags-node c = omega (arith, c.node.ensures, (rooted_fits _ _ _ (rooted_in c.args.self.now c.loop-place.p (omega arith))).nodes (c.args.at - c.shared-shared.result) (omega arith), c.requires.flags_long)
