-- `reading::pick_costs`: the first i costs are read. Assumes nothing.
use Prim.Native.Nat.{ℕ, ◌<◌}
use native.Mathlib.Omega.{arith}
use mathlib.Core.Path.{◌≡◌, refl, sym, ◌∙◌}
use lib.ListN.{length, get_or, length-set, length-map}
use lib.Seq.{take_all}
use Rattle.image.specs.Bytes.{decode}
use Rattle.image.proofs.SliceLaws.{copy_more}
use Rattle.loading.specs.Selected.{at_places}
use Rattle.loading.proofs.SelectLaws.{index_below}
use Rattle.loading.proofs.PartLaws.{picked_cost}
use Rattle.loading.proofs.DecodeLaws.{whole}
use Rattle.loading.proofs.reading.pick_costs.Goals as goal

pub loop-i-init : goal.loop-i-init
loop-i-init c = (omega arith, refl, refl)

pub read-requires : goal.read-requires
read-requires c =
    let below : get_or c.args.kept.now c.loop-i.i 0 < c.args.m = index_below c.requires.2 c.loop-i.i c.loop-i-test.true in
    omega (arith, below, c.requires.0)

pub loop-i-preserved : goal.loop-i-preserved
loop-i-preserved c =
    let all = at_places c.args.kept.now (decode 4 c.args.m c.args.column.now) in
    let long = length-map c.args.kept.now (λ (j : ℕ). get_or (decode 4 c.args.m c.args.column.now) j 0) in
    let read : c.read.result ≡ get_or all c.loop-i.i 0 = c.read.ensures ∙ sym (picked_cost c.args.m c.args.column.now c.args.kept.now c.requires.2 c.loop-i.i (omega arith)) in
    (omega arith, simp length-set (omega arith), rw (c.loop-i.invariant.2, read) (copy_more all c.args.weights.now c.loop-i.i (omega arith) (omega arith)))

pub returns : goal.returns
returns c =
    let all = at_places c.args.kept.now (decode 4 c.args.m c.args.column.now) in
    let long = length-map c.args.kept.now (λ (j : ℕ). get_or (decode 4 c.args.m c.args.column.now) j 0) in
    let done : c.loop-i.i ≡ length c.args.kept.now = omega arith in
    c.loop-i.invariant.2 ∙ rw (done, take_all (length c.args.kept.now) all (omega arith)) (whole all c.args.weights.now {m = length c.args.kept.now} c.requires.3)
