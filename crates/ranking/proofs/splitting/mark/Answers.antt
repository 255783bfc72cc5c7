-- `splitting::mark` flags node after node. The loop: the nodes so far are laid out. Assumes nothing.
use Prim.Native.Nat.{◌<◌}
use native.Mathlib.Omega.{arith}
use mathlib.Core.Path.{◌≡◌}
use lib.ListN.{length-take}
use lib.Seq.{get_or-take}
use Rattle.ranking.proofs.DeviateLaws.{mark_start, mark_next}
use Rattle.ranking.proofs.splitting.mark.Goals as goal

pub loop-v-init : goal.loop-v-init
loop-v-init c = mark_start c.requires

pub loop-v-preserved : goal.loop-v-preserved
loop-v-preserved c =
    let inside : c.loop-v.v-index < c.args.len = omega (arith, length-take c.args.len c.args.path.now, c.loop-v-test.true) in
    rw (get_or-take c.args.len c.args.path.now c.loop-v.v-index 0 inside) (mark_next c.requires inside c.loop-v.invariant)

pub returns : goal.returns
returns c =
    let all : c.loop-v.v-index ≡ c.args.len = omega (arith, length-take c.args.len c.args.path.now, c.loop-v-test.false, c.requires.upto) in
    rw all at c.loop-v.invariant
