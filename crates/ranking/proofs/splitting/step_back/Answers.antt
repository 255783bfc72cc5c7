-- `splitting::step_back` takes the last node off the path. Assumes nothing.
use Prim.Native.Nat.{◌-◌, ◌<◌}
use native.Mathlib.Omega.{arith}
use mathlib.Core.Path.{refl, ◌∙◌}
use lib.ListN.{length, get_or}
use Rattle.branching.proofs.LaidLaws.{laid_place, laid_less}
use Rattle.ranking.proofs.splitting.step_back.Goals as goal

pub arc_weight-requires : goal.arc_weight-requires
arc_weight-requires c =
    let before_last : get_or c.args.path.now (c.args.d - 1) 0 < length c.args.used.now = laid_place (c.args.d - 1) (omega (arith, c.requires.laid.1)) c.requires.laid.0 in
    omega (arith, before_last, c.requires.places)

pub returns : goal.returns
returns c =
    record { one_less = laid_less refl c.requires.laid.0; value = λ k. c.from.ensures ∙ c.arc_weight.ensures k }

pub bounds-used-y : goal.bounds-used-y
bounds-used-y c = omega (arith, laid_place c.args.d (omega arith) c.requires.laid.0)
