-- `writing::write_path`: the nodes before place i are written. Assumes nothing.
use native.Mathlib.Omega.{arith}
use mathlib.Core.Path.{◌∙◌, ◌≡◌}
use Rattle.image.proofs.SliceLaws.{copy_more}
use Rattle.outcomes.proofs.writing.write_path.Goals as goal

pub loop-i-preserved : goal.loop-i-preserved
loop-i-preserved c = record {
  inside = omega arith;
  written = rw c.loop-i.invariant.written (copy_more c.args.route.now c.args.path.now c.loop-i.i (omega arith) (omega arith));
}

pub returns : goal.returns
returns c =
    let done : c.loop-i.i ≡ c.args.count = omega arith in
    c.loop-i.invariant.written ∙ rw done
