-- `raise::mend_all` mends label after label, from the last to the first. Assumes nothing.
use Rattle.sharpening.proofs.SharpLaws.{mending_next, mending_goal, mending_at, one_less, begins_rest, last_is}
use Rattle.sharpening.proofs.raise.mend_all.Goals as goal
use Rattle.sharpening.proofs.raise.mend_all.Goals.{else-x-goal-via-then-x-goal+else-not-mend, else-x-goal-via-else-x-goal}

pub loop-node-preserved : goal.loop-node-preserved
loop-node-preserved c =
    let split = c.in-Some.ensures.steps in
    let begins = c.loop-node.invariant.1 in
    let node = last_is _ _ _ _ split begins in
    elim c.else-x-goal.branch [
      | else-x-goal-via-then-x-goal+else-not-mend w ↦
          rw w.labels-is (w.mend.ensures.still_small, begins_rest _ _ _ _ split begins, λ os z l. mending_next node w.if-x-goal.true (w.mend.ensures.mends w.if-not-mend.false) (mending_at (one_less _ _ c.args.front.now.taken _ split) (c.loop-node.invariant.2 os z l)))
      | else-x-goal-via-else-x-goal w ↦
          rw w.labels-is (c.loop-node.invariant.0, begins_rest _ _ _ _ split begins, λ os z l. mending_goal node w.if-x-goal.false z (mending_at (one_less _ _ c.args.front.now.taken _ split) (c.loop-node.invariant.2 os z l)))
    ]
