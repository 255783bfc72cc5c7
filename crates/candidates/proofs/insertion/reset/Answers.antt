-- `insertion::reset` makes the order the identity. The loop: the slots below p stand at their own places, and what lies behind the slots is kept. Assumes nothing.
use Prim.Native.Nat.{◌≤◌, ◌+◌, ◌*◌}
use native.Mathlib.Omega.{arith}
use mathlib.Core.Path.{◌∙◌}
use lib.Seq.{drop-set-lt}
use Rattle.candidates.proofs.SlotLaws.{slot_in}
use Rattle.candidates.proofs.InsertionLaws.{same_more, none_kept}
use Rattle.candidates.proofs.insertion.reset.Goals as goal

pub loop-p-preserved : goal.loop-p-preserved
loop-p-preserved c =
    let inside : c.loop-p.p * (c.args.n + 16) + (c.args.n + 16) ≤ c.args.slots * (c.args.n + 16) = slot_in (c.args.n + 16) c.loop-p.p {M = c.args.slots} (omega arith) (omega arith) in (
      same_more c.args.n c.loop-p.p c.loop-p.work (omega arith) c.loop-p.invariant.0,
      drop-set-lt _ c.loop-p.work _ c.loop-p.p (omega arith) ∙ c.loop-p.invariant.1,
    )

pub returns : goal.returns
returns c = record { kept = none_kept c.requires.0 (omega arith) (λ p h. c.loop-p.invariant.0 p (omega arith)); beyond_same = c.loop-p.invariant.1 }
