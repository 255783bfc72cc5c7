-- `writing::write_narrow`: the labels of the nodes before i are written. Assumes nothing.
use Prim.Native.Nat.{ℕ, ◌+◌, ◌-◌}
use native.Mathlib.Omega.{arith}
use mathlib.Core.Path.{◌≡◌, sym, ◌∙◌, ap}
use mathlib.Core.List.{map}
use lib.ListN.{length, get_or, drop}
use lib.Seq.{take_all}
use Rattle.image.proofs.SliceLaws.{copy_more}
use Rattle.outcomes.specs.Labels.{narrowed}
use Rattle.outcomes.proofs.LabelLaws.{narrowed_at, length_narrowed}
use Rattle.outcomes.proofs.writing.write_narrow.Goals as goal

pub loop-i-preserved : goal.loop-i-preserved
loop-i-preserved c =
    let s = map narrowed (drop 1 c.args.exact.now) in
    let j = c.loop-i.i - 1 in
    let e : j + 1 ≡ c.loop-i.i = omega arith in
    let f : c.loop-i.i + 1 - 1 ≡ j + 1 = omega arith in
    let new : c.narrow.result ≡ get_or s j 0 = c.narrow.ensures ∙ sym (narrowed_at c.args.exact.now j ∙ ap (λ (x : ℕ). narrowed (get_or c.args.exact.now x 0)) e) in
    record {
      inside = omega arith;
      written = rw (f, c.loop-i.invariant.written, new) (copy_more s c.args.labels.now j (omega (arith, length_narrowed c.args.exact.now)) (omega arith));
    }

pub returns : goal.returns
returns c =
    let s = map narrowed (drop 1 c.args.exact.now) in
    let done : c.loop-i.i - 1 ≡ length c.args.exact.now - 1 = omega arith in
    c.loop-i.invariant.written ∙ rw (done, take_all (length c.args.exact.now - 1) s (omega (arith, length_narrowed c.args.exact.now)))
