-- `first::sharp_path`: a walk along the sharpened labels, which are consistent; where they cannot be relied on, the path by exact labels; and where they show that each
-- path costs more than is wanted, none. Assumes nothing.
use Prim.Native.Nat.{◌-◌}
use native.Mathlib.Omega.{arith}
use mathlib.Core.Path.{refl}
use Rattle.branching.specs.Found.{Extent, FirstFound, FirstWithin}
use Rattle.branching.proofs.FirstLaws.{branch_empty, branch_floor}
use Rattle.branching.proofs.LaidLaws.{laid_place}
use Rattle.branching.proofs.first.sharp_path.Goals as goal

pub sharpen-sharp-requires-clause-small : goal.sharpen-sharp-requires-clause-small
sharpen-sharp-requires-clause-small c = rw c.requires.small.long c.requires.small

pub sharpen-sharp-requires-clause-from : goal.sharpen-sharp-requires-clause-from
sharpen-sharp-requires-clause-from c = rw c.requires.small.long (laid_place (c.args.d - 1) (omega (arith, c.requires.begun.some)) c.requires.begun.laid)

pub returns-then-not-sharp : goal.returns-then-not-sharp
returns-then-not-sharp c = record { kept = c.exact_path.ensures.kept; first_within = λ s F B h. FirstWithin.is (c.exact_path.ensures.first_found s F B h) }

pub least_exit-requires-clause-node : goal.least_exit-requires-clause-node
least_exit-requires-clause-node c =
    let small = rw c.requires.small.long at c.sharpen-sharp.ensures.still_small in
    rw small.long (laid_place (c.args.d - 1) (omega (arith, c.requires.begun.some)) c.requires.begun.laid)

pub least_exit-requires-clause-small : goal.least_exit-requires-clause-small
least_exit-requires-clause-small c =
    let small = rw c.requires.small.long at c.sharpen-sharp.ensures.still_small in
    rw small.long small

pub returns-in_err-step : goal.returns-in_err-step
returns-in_err-step c =
    let consistent = c.sharpen-sharp.ensures.consistent _ c.if-not-sharp.false c.requires.begun.laid.flagged.outside c.requires.consistent in
    rw c.from_residual.ensures (record {
      kept = record { flags = refl; kept = refl; reach = Extent.nothing };
      first_within = λ s F B h. FirstWithin.is (FirstFound.none (branch_empty c.requires.begun h B consistent c.in_err-step.ensures.chosen));
    })

pub returns-then-is_dear : goal.returns-then-is_dear
returns-then-is_dear c =
    let consistent = c.sharpen-sharp.ensures.consistent _ c.if-not-sharp.false c.requires.begun.laid.flagged.outside c.requires.consistent in
    let d = c.is_dear.ensures c.if-is_dear.true in
    record {
      kept = record { flags = refl; kept = refl; reach = Extent.nothing };
      first_within = λ s F B h. FirstWithin.dear _ d.0 d.1 (branch_floor c.requires.begun h B c.in_ok-step.ensures.chosen consistent);
    }

pub along-requires : goal.along-requires
along-requires c =
    let consistent = c.sharpen-sharp.ensures.consistent _ c.if-not-sharp.false c.requires.begun.laid.flagged.outside c.requires.consistent in
    record { used_long = c.requires.used_long; begun = c.requires.begun; ahead = c.requires.ahead; consistent = consistent; small = rw c.requires.small.long at c.sharpen-sharp.ensures.still_small; choice = c.in_ok-step.ensures.chosen }

pub returns : goal.returns
returns c = record { kept = c.along.ensures.kept; first_within = λ s F B h. FirstWithin.is (c.along.ensures.first_found s F B h) }
