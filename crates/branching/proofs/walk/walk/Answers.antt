-- `walk::walk` lengthens the path by tight steps. The loop: the path is laid out and flagged, and the walk so far goes on as a tight walk; the room behind
-- the path falls. Assumes nothing.
use mathlib.Core.Path.{refl, ◌∙◌}
use Prim.Native.Nat.{◌-◌}
use native.Mathlib.Omega.{arith}
use lib.ListN.{length-set}
use lib.Seq.{take-set-le}
use Rattle.branching.proofs.LaidLaws.{take_more, walking_start, walking_step, walking_end, laid_room, laid_more, laid_place}
use Rattle.branching.proofs.walk.walk.Goals as goal

pub loop-x-init : goal.loop-x-init
loop-x-init c = (omega arith, refl, refl, c.requires.laid.0, laid_place (c.args.at - 1) (omega arith) c.requires.laid.0, λ r. (walking_start, r))

pub returns-in_default : goal.returns-in_default
returns-in_default c =
    record { longer = record { no_shorter = c.loop-x.invariant.0; laid = c.loop-x.invariant.3; kept = c.loop-x.invariant.2 }; arrives = λ r. tt }

pub loop-x-smaller : goal.loop-x-smaller
loop-x-smaller c =
    simp length-set (omega (arith, laid_room c.loop-x.invariant.3 c.in-Some.ensures.usable))

pub loop-x-preserved : goal.loop-x-preserved
loop-x-preserved c =
    let u = c.in-Some.ensures.usable in
    let e = take_more c.loop-x.path c.loop-x.len c.in-Some.y (laid_room c.loop-x.invariant.3 u) in (
      omega (arith, c.loop-x.invariant.0),
      simp length-set c.loop-x.invariant.1,
      take-set-le _ _ _ c.in-Some.y c.loop-x.invariant.0 ∙ c.loop-x.invariant.2,
      laid_more c.loop-x.invariant.3 u,
      u.upto,
      λ r.
          let w = c.loop-x.invariant.5 r in
          let t = c.in-Some.ensures.tight w.1 in
          (rw e (walking_step c.loop-x.invariant.3.flagged c.loop-x-test.true t w.0), t.exit.reached),
    )

pub returns : goal.returns
returns c =
    record { longer = record { no_shorter = c.loop-x.invariant.0; laid = c.loop-x.invariant.3; kept = c.loop-x.invariant.2 }; arrives = λ r. walking_end c.loop-x-test.false (c.loop-x.invariant.5 r).0 }

pub bounds-path-len : goal.bounds-path-len
bounds-path-len c = laid_room c.loop-x.invariant.3 c.in-Some.ensures.usable
