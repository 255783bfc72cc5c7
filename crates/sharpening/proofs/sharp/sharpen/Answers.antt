-- `sharp::sharpen`: labels that are lifted from consistent ones and then mended are consistent. Assumes nothing.
use Prim.Native.Nat.{◌≤◌}
use native.Mathlib.Omega.{arith}
use lib.ListN.{length}
use Rattle.star.proofs.NetworkLaws.{graph_few}
use Rattle.sharpening.proofs.SharpLaws.{front_none}
use Rattle.sharpening.proofs.sharp.sharpen.Goals as goal

pub new-front-requires : goal.new-front-requires
new-front-requires c =
    let few : length c.args.overall.now ≤ 201 = omega (arith, graph_few c.args.graph.now, c.requires.overall_long) in
    front_none 201 _ (omega (arith, c.requires.from)) few few

pub returns-clause-consistent : goal.returns-clause-consistent
returns-clause-consistent c = λ bar e free g. c.mend_all.ensures.consistent _ bar e (rw c.copy_from_slice.ensures.after at c.lift_all.ensures.lifted) free g
