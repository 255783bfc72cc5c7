-- `columns::Columns::lengthen`: the sums of the columns before u are lengthened. Assumes nothing.
use Prim.Native.Nat.{◌+◌, ◌≤◌, ◌<◌}
use native.Mathlib.Omega.{arith}
use mathlib.Core.Path.{◌≡◌, ap₂}
use lib.ListN.{length, get_or, length-set}
use Rattle.descent.specs.Rows.{at_row}
use Rattle.descent.proofs.StarLaws.{cost_in}
use Rattle.star.proofs.Stores.{set_each}
use Rattle.descent.proofs.columns.Columns.lengthen.Goals as goal

pub bounds-self-u : goal.bounds-self-u
bounds-self-u c = cost_in c.args.self.now.fits c.loop-u.u c.args.i (omega arith) (omega arith)

pub loop-u-preserved : goal.loop-u-preserved
loop-u-preserved c =
    let long : c.loop-u.u < length c.loop-u.longer = omega (arith, c.loop-u.invariant.long, c.args.self.now.fits.ground.rows.columns_to) in
    let more : get_or c.loop-u.longer c.loop-u.u 0 + c.from.result ≡ get_or c.args.sums.now c.loop-u.u 0 + at_row c.args.self.now.arcs c.args.self.now.costs.now c.loop-u.u c.args.i = ap₂ ◌+◌ (c.loop-u.invariant.left c.loop-u.u (omega arith)) c.from.ensures in
    record {
      long = simp length-set c.loop-u.invariant.long;
      done = λ w h. set_each (λ w x. w < c.loop-u.u + 1 → x ≡ get_or c.args.sums.now w 0 + at_row c.args.self.now.arcs c.args.self.now.costs.now w c.args.i) c.loop-u.longer c.loop-u.u _ long (λ _. more) (λ w n k. c.loop-u.invariant.done w (omega arith)) w h;
      left = λ w h. set_each (λ w x. c.loop-u.u + 1 ≤ w → x ≡ get_or c.args.sums.now w 0) c.loop-u.longer c.loop-u.u _ long (λ k. absurd (omega arith)) (λ w n k. c.loop-u.invariant.left w (omega arith)) w h;
      low = set_each (λ w x. x ≤ get_or c.args.sums.now w 0 + 4294967296) c.loop-u.longer c.loop-u.u _ long (omega (arith, c.from.ensures, c.type_inv.self, c.loop-u.invariant.left c.loop-u.u (omega arith))) (λ w n. c.loop-u.invariant.low w);
    }
