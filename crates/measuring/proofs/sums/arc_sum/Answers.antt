-- `sums::arc_sum` adds up arc after arc, from the last to the first. Assumes nothing.
use Prim.Native.Nat.{◌<◌}
use native.Mathlib.Omega.{arith}
use lib.ListN.{length}
use Rattle.std.specs.Prelude.{Some}
use Rattle.std.proofs.lemmas.List.Elements.{All-pop}
use Rattle.measuring.proofs.StepLaws.{sum_last, sum_small}
use Rattle.measuring.proofs.sums.arc_sum.Goals as goal

pub bounds-weights-arc : goal.bounds-weights-arc
bounds-weights-arc c =
    let ws = c.args.weights.now in
    (All-pop (λ a. a < length ws) _ _ (Some _) c.in-Some.ensures.steps c.loop-arc.invariant.0).1

pub overflow_add-sum : goal.overflow_add-sum
overflow_add-sum c =
    let ws = c.args.weights.now in
    omega (arith, c.requires.few, c.from-sum.ensures, sum_last ws c.next.new.self.iter.rest.now c.in-Some.field-0.now c.in-Some.ensures.steps, c.loop-arc.invariant.1, sum_small ws c.args.arcs.now (λ i. omega (arith, c.type_inv.weights i)))

pub loop-arc-preserved : goal.loop-arc-preserved
loop-arc-preserved c =
    let ws = c.args.weights.now in
    let all = All-pop (λ a. a < length ws) _ _ (Some _) c.in-Some.ensures.steps c.loop-arc.invariant.0 in
    (all.0, omega (arith, c.from-sum.ensures, sum_last ws c.next.new.self.iter.rest.now c.in-Some.field-0.now c.in-Some.ensures.steps, c.loop-arc.invariant.1))

pub returns : goal.returns
returns c =
    let ws = c.args.weights.now in
    omega (arith, c.loop-arc.invariant.1, c.in-None.ensures.steps.0, sum_small ws c.loop-arc.arc-iterator.iter.rest.now (λ i. omega (arith, c.type_inv.weights i)))
