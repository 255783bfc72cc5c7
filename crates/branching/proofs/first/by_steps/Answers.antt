-- `first::by_steps` lengthens the path by y and the steps from there, and clears the flags behind d again. Assumes nothing.
use native.Mathlib.Omega.{arith}
use mathlib.Core.Bool.{true}
use lib.ListN.{length-set}
use Rattle.branching.proofs.FirstLaws.{still_ahead}
use Rattle.branching.proofs.LaidLaws.{take_more, laid_room, laid_more, tried}
use Rattle.branching.proofs.first.by_steps.Goals as goal

pub steps-len-requires : goal.steps-len-requires
steps-len-requires c =
    rw (length-set c.args.used.now c.args.y true) (record { used_long = c.requires.used_long; laid = (laid_more c.requires.laid.0 c.requires.laid.1, omega arith); goal_unmet = (c.requires.ahead.place, still_ahead c.requires.laid.0 c.requires.laid.1 c.requires.ahead); labels_long = c.requires.labels_long })

pub unmark-requires : goal.unmark-requires
unmark-requires c =
    let longer = rw (length-set c.args.used.now c.args.y true) at c.steps-len.ensures.longer in
    (rw longer.laid.flags_long longer.laid, omega (arith, longer.no_shorter))

pub returns : goal.returns
returns c =
    let at_d = take_more c.args.path.now c.args.d c.args.y (laid_room c.requires.laid.0 c.requires.laid.1) in
    record { tried = tried c.args.y c.requires.laid.0 (rw (length-set c.args.used.now c.args.y true) at c.steps-len.ensures.longer) c.unmark.ensures; is_first = λ v p i. rw at_d at (c.steps-len.ensures.is_first v p (rw at_d i)) }

pub bounds-path-d : goal.bounds-path-d
bounds-path-d c = laid_room c.requires.laid.0 c.requires.laid.1
