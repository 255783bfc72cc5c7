-- `standing::touched`: the arc's tail and head are read from the image. Assumes nothing.
use native.Mathlib.Omega.{arith}
use mathlib.Core.Path.{◌∙◌}
use Rattle.week_calls.proofs.WeekLaws.{arc_inside, arc_read}
use Rattle.week_calls.proofs.standing.touched.Goals as goal

pub read-tail-requires : goal.read-tail-requires
read-tail-requires c = omega (arith, arc_inside c.args.network.now.accepted c.args.arc c.requires)

pub read-head-requires : goal.read-head-requires
read-head-requires c = omega (arith, arc_inside c.args.network.now.accepted c.args.arc c.requires)

pub returns : goal.returns
returns c = c.touches.ensures ∙ arc_read c.args.network.now.accepted c.args.arc c.requires c.args.route.now c.read-tail.ensures c.read-head.ensures

pub overflow_mul-arc : goal.overflow_mul-arc
overflow_mul-arc c = omega (arith, arc_inside c.args.network.now.accepted c.args.arc c.requires)

pub overflow_add-arc : goal.overflow_add-arc
overflow_add-arc c = omega (arith, arc_inside c.args.network.now.accepted c.args.arc c.requires)

pub overflow_mul-arc-2 : goal.overflow_mul-arc-2
overflow_mul-arc-2 c = omega (arith, arc_inside c.args.network.now.accepted c.args.arc c.requires)

pub overflow_add-arc-2 : goal.overflow_add-arc-2
overflow_add-arc-2 c = omega (arith, arc_inside c.args.network.now.accepted c.args.arc c.requires)
