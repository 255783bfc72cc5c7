-- `excesses::greatest_excess`: one column more raises the largest excess or keeps it; one that reaches the limit is no more than the largest of all. Assumes nothing.
use Prim.Native.Nat.{◌+◌, ◌≤◌}
use native.Mathlib.Omega.{arith}
use mathlib.Core.Path.{◌≡◌, ap}
use lib.ListN.{length}
use Rattle.terms.proofs.LargestLaws.{raised, kept, greatest}
use Rattle.measuring.specs.Steps.{excesses}
use Rattle.measuring.proofs.StepLaws.{excess_within, excess_is}
use Rattle.measuring.proofs.excesses.greatest_excess.Goals as goal
use Rattle.measuring.proofs.excesses.greatest_excess.Goals.{then-greatest-excess+else-limit-excess, else-greatest-excess}

pub returns-then-limit-excess : goal.returns-then-limit-excess
returns-then-limit-excess c =
    let columns = c.args.columns.now in
    let excess-is = excess_is columns c.args.bests.now c.args.arcs.now c.loop-i.i c.costs_in.ensures.costs c.arc_sum.ensures in
    record {
      exact = λ h. absurd (omega (arith, c.if-limit-excess.true));
      beyond = λ _. omega (arith, c.if-limit-excess.true, excess-is, excess_within columns.arcs columns.costs.now c.args.bests.now c.args.arcs.now (c.loop-i.i + 1) (omega arith) (omega arith));
    }

pub loop-i-preserved : goal.loop-i-preserved
loop-i-preserved c =
    let excess-is = excess_is c.args.columns.now c.args.bests.now c.args.arcs.now c.loop-i.i c.costs_in.ensures.costs c.arc_sum.ensures in
    elim c.if-greatest-excess.branch [ then-greatest-excess+else-limit-excess w ↦ raised (omega arith) c.loop-i.invariant excess-is w.if-greatest-excess.true (ap (λ g. g.figure) w.greatest-is) (ap (λ g. g.worst) w.greatest-is) | else-greatest-excess w ↦ kept (omega arith) c.loop-i.invariant excess-is w.if-greatest-excess.false (ap (λ g. g.figure) w.greatest-is) (ap (λ g. g.worst) w.greatest-is) ]

pub returns : goal.returns
unfolding excesses
returns c =
    let some : 1 ≤ length c.args.bests.now = omega (arith, c.requires.bests_long, c.args.columns.now.held.columns_from) in
    let done : c.loop-i.i ≡ length c.args.bests.now = omega arith in
    let g = greatest some (rw done at c.loop-i.invariant) in
    record { exact = λ _. (g.0, rw (← g.0) g.1); beyond = λ h. omega (arith, g.0) }
