-- `first::steps` goes from node to node along exact labels. The loop: the branch of the nodes so far has a path, and its first path is that of the branch at
-- the start; so there always is an exit. The room behind the path falls. Assumes nothing.
use mathlib.Core.Path.{refl, ◌∙◌}
use native.Mathlib.Omega.{arith}
use lib.ListN.{length-set}
use Rattle.branching.proofs.LaidLaws.{laid_room}
use Rattle.branching.proofs.FirstLaws.{stepping_place, stepping_more, stepping_onward, stepping_stuck, stepping_end, onward_start}
use Rattle.branching.proofs.NetworkLaws.{graph_small, stepping_exact}
use Rattle.branching.proofs.first.steps.Goals as goal

pub loop-x-init : goal.loop-x-init
loop-x-init c = (record { longer = record { no_shorter = omega arith; laid = c.requires.laid.0; kept = refl }; same = refl; some = c.requires.laid.1; last = refl; goal_ahead = c.requires.goal_unmet.1 }, c.requires.labels_long, λ s r i. onward_start i)

pub least-requires-clause-goal : goal.least-requires-clause-goal
least-requires-clause-goal c = rw c.loop-x.invariant.1 (record { place = c.requires.goal_unmet.0; free = c.loop-x.invariant.0.goal_ahead c.loop-x-test.true })

pub least_exit-requires-clause-node : goal.least_exit-requires-clause-node
least_exit-requires-clause-node c = rw (c.least.auto.labels ∙ c.loop-x.invariant.1) (stepping_place c.loop-x.invariant.0)

pub least_exit-requires-clause-small : goal.least_exit-requires-clause-small
least_exit-requires-clause-small c =
    let long = c.least.auto.labels ∙ c.loop-x.invariant.1 in
    rw long (graph_small c.args.graph.now.holds c.requires.used_long long c.least.ensures)

pub returns-in_default : goal.returns-in_default
returns-in_default c =
    let exact = stepping_exact c.args.graph.now.holds c.requires.used_long c.loop-x.invariant.0 c.loop-x-test.true (c.least.auto.labels ∙ c.loop-x.invariant.1) c.least.ensures in
    record { longer = c.loop-x.invariant.0.longer; is_first = λ s p k. absurd (stepping_stuck c.loop-x.invariant.0 (c.loop-x.invariant.2 s p k) c.loop-x-test.true exact (rw c.in_default.is at c.least_exit.ensures.chosen)) }

pub bounds-path-len : goal.bounds-path-len
bounds-path-len c = laid_room c.loop-x.invariant.0.longer.laid (rw (c.least.auto.labels ∙ c.loop-x.invariant.1) at c.in-Some.ensures.usable)

pub loop-x-smaller : goal.loop-x-smaller
loop-x-smaller c = simp length-set (omega (arith, laid_room c.loop-x.invariant.0.longer.laid (rw (c.least.auto.labels ∙ c.loop-x.invariant.1) at c.in-Some.ensures.usable)))

pub loop-x-preserved : goal.loop-x-preserved
loop-x-preserved c =
    let long = c.least.auto.labels ∙ c.loop-x.invariant.1 in
    let exact = stepping_exact c.args.graph.now.holds c.requires.used_long c.loop-x.invariant.0 c.loop-x-test.true long c.least.ensures in
    let usable = rw long at c.in-Some.ensures.usable in (
      stepping_more c.loop-x-test.true usable c.loop-x.invariant.0,
      long,
      λ s p k. stepping_onward c.loop-x.invariant.0 (c.loop-x.invariant.2 s p k) c.loop-x-test.true exact usable c.in-Some.ensures.chosen,
    )

pub returns : goal.returns
returns c = record { longer = c.loop-x.invariant.0.longer; is_first = λ s p k. stepping_end c.loop-x.invariant.0 (c.loop-x.invariant.2 s p k) c.loop-x-test.false }
