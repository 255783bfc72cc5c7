-- `arcs::arc_between` searches the arcs out of v. Assumes nothing.
use Prim.Native.Nat.{◌+◌}
use native.Mathlib.Omega.{arith}
use Rattle.star.proofs.StarLaws.{arc_found}
use Rattle.star.proofs.arcs.arc_between.Goals as goal

pub find_arc-requires : goal.find_arc-requires
find_arc-requires c =
    let short = c.type_inv.first_out (c.args.v + 1) in
    (omega arith, omega arith, omega arith)

pub returns : goal.returns
returns c = arc_found c.find_arc.result.arc c.requires.0 c.requires.1 c.find_arc.ensures.finds
