-- `walk::unmark` takes the last node off the path until `from` are left. The loop: the first i nodes are laid out. Assumes nothing.
use mathlib.Core.Path.{◌≡◌}
use Prim.Native.Nat.{◌-◌}
use native.Mathlib.Omega.{arith}
use Rattle.branching.proofs.LaidLaws.{laid_less, laid_place}
use Rattle.branching.proofs.walk.unmark.Goals as goal

pub loop-i-init : goal.loop-i-init
loop-i-init c = (c.requires.1, c.requires.0)

pub loop-i-preserved : goal.loop-i-preserved
loop-i-preserved c = (omega arith, laid_less (omega arith) c.loop-i.invariant.1)

pub returns : goal.returns
returns c =
    let e : c.loop-i.i ≡ c.args.from = omega arith in
    rw e at c.loop-i.invariant.1

pub bounds-used-path : goal.bounds-used-path
bounds-used-path c = omega (arith, laid_place (c.loop-i.i - 1) (omega arith) c.loop-i.invariant.1, c.loop-i.invariant.1.flags_long)
