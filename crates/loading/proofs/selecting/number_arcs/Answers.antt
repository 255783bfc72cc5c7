-- `selecting::number_arcs`: the first i places hold their own numbers. Assumes nothing.
use Prim.Native.Nat.{ℕ}
use native.Mathlib.Omega.{arith}
use mathlib.Core.Path.{◌≡◌, refl, ◌∙◌, ap}
use mathlib.Core.List.{◌++◌}
use lib.ListN.{length, get_or, take, drop, set, length-set}
use lib.Seq.{take_all}
use Rattle.terms.specs.Lists.{numbers}
use Rattle.terms.proofs.ListLaws.{length_numbers}
use Rattle.image.proofs.SliceLaws.{copy_more}
use Rattle.loading.proofs.SelectLaws.{number_at}
use Rattle.loading.proofs.DecodeLaws.{whole}
use Rattle.loading.proofs.selecting.number_arcs.Goals as goal

pub loop-i-init : goal.loop-i-init
loop-i-init c = (omega arith, refl, refl)

pub loop-i-preserved : goal.loop-i-preserved
loop-i-preserved c =
    let count = length_numbers 0 (length c.args.kept.now) in
    let own : c.loop-i.i ≡ get_or (numbers 0 (length c.args.kept.now)) c.loop-i.i 0 = number_at (length c.args.kept.now) c.loop-i.i (omega arith) in
    (omega arith, simp length-set (omega arith), rw c.loop-i.invariant.2 (ap (λ (x : ℕ). set (take c.loop-i.i (numbers 0 (length c.args.kept.now)) ++ drop c.loop-i.i c.args.kept.now) c.loop-i.i x) own ∙ copy_more (numbers 0 (length c.args.kept.now)) c.args.kept.now c.loop-i.i (omega arith) (omega arith)))

pub returns : goal.returns
returns c =
    let done : c.loop-i.i ≡ length c.args.kept.now = omega arith in
    c.loop-i.invariant.2 ∙ rw (done, take_all (length c.args.kept.now) (numbers 0 (length c.args.kept.now)) (omega (arith, length_numbers 0 (length c.args.kept.now)))) (whole (numbers 0 (length c.args.kept.now)) c.args.kept.now refl)
