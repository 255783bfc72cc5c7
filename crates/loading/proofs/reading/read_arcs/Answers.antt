-- `reading::read_arcs`: the first i tails and heads are read. Assumes nothing.
use Prim.Native.Nat.{ℕ, ◌+◌, ◌*◌, ◌≤◌, ◌<◌}
use native.Mathlib.Omega.{arith}
use mathlib.Core.Path.{◌≡◌, refl, sym, ◌∙◌, ap}
use mathlib.Core.List.{map}
use lib.ListN.{length, get_or, length-set, length-map, get_or-map}
use lib.Seq.{take_all}
use Rattle.image.specs.Layout.{net_of}
use Rattle.image.proofs.SliceLaws.{copy_more}
use Rattle.loading.specs.Selected.{selected}
use Rattle.loading.proofs.SelectLaws.{index_below, selected_length}
use Rattle.loading.proofs.PartLaws.{length_is}
use Rattle.loading.proofs.DecodeLaws.{whole, arc_count_is, few_arcs, selected_arc}
use Rattle.loading.proofs.reading.read_arcs.Goals as goal

pub loop-i-init : goal.loop-i-init
loop-i-init c = (omega arith, refl, refl, refl, refl)

pub read-requires : goal.read-requires
read-requires c =
    let below : get_or c.args.kept.now c.loop-i.i 0 < c.args.network.now.sizes.m = index_below c.requires.indices c.loop-i.i c.loop-i-test.true in
    let inside : (24 + 4 * c.args.network.now.sizes.m ≤ length c.args.network.now.image.now) × (c.args.network.now.sizes.m ≤ 1000) = (omega (arith, arc_count_is c.args.network.now.accepted, length_is c.args.network.now.image.now c.args.network.now.accepted.passes), few_arcs c.args.network.now.accepted) in
    omega (arith, below, inside)

pub read-requires-in-loop-i : goal.read-requires-in-loop-i
read-requires-in-loop-i c =
    let below : get_or c.args.kept.now c.loop-i.i 0 < c.args.network.now.sizes.m = index_below c.requires.indices c.loop-i.i c.loop-i-test.true in
    let inside : (24 + 4 * c.args.network.now.sizes.m ≤ length c.args.network.now.image.now) × (c.args.network.now.sizes.m ≤ 1000) = (omega (arith, arc_count_is c.args.network.now.accepted, length_is c.args.network.now.image.now c.args.network.now.accepted.passes), few_arcs c.args.network.now.accepted) in
    omega (arith, below, inside)

pub loop-i-preserved : goal.loop-i-preserved
loop-i-preserved c =
    let arc = selected_arc c.args.network.now.accepted c.requires.indices c.loop-i.i c.loop-i-test.true in
    let tail : c.read.result ≡ get_or (map (λ (a : ℕ × ℕ). a.0) (selected c.args.kept.now (net_of c.args.network.now.image.now)).arcs) c.loop-i.i 0 = c.read.ensures ∙ sym (get_or-map (λ (a : ℕ × ℕ). a.0) (selected c.args.kept.now (net_of c.args.network.now.image.now)).arcs c.loop-i.i (0, 0) ∙ ap (λ (a : ℕ × ℕ). a.0) arc) in
    let head : c.read-in-loop-i.result ≡ get_or (map (λ (a : ℕ × ℕ). a.1) (selected c.args.kept.now (net_of c.args.network.now.image.now)).arcs) c.loop-i.i 0 = c.read-in-loop-i.ensures ∙ sym (get_or-map (λ (a : ℕ × ℕ). a.1) (selected c.args.kept.now (net_of c.args.network.now.image.now)).arcs c.loop-i.i (0, 0) ∙ ap (λ (a : ℕ × ℕ). a.1) arc) in
    let long = selected_length c.args.kept.now (net_of c.args.network.now.image.now) in
    (omega arith, simp length-set (omega arith), simp length-set (omega arith), rw (c.loop-i.invariant.3, tail) (copy_more _ c.args.tails.now c.loop-i.i (simp length-map (omega arith)) (omega arith)), rw (c.loop-i.invariant.4, head) (copy_more _ c.args.heads.now c.loop-i.i (simp length-map (omega arith)) (omega arith)))

pub returns : goal.returns
returns c =
    let done : c.loop-i.i ≡ length c.args.kept.now = omega arith in
    let long = selected_length c.args.kept.now (net_of c.args.network.now.image.now) in
    record { tails_after = c.loop-i.invariant.3 ∙ rw (done, take_all (length c.args.kept.now) (map (λ (a : ℕ × ℕ). a.0) (selected c.args.kept.now (net_of c.args.network.now.image.now)).arcs) (simp length-map (omega arith))) (whole _ c.args.tails.now c.requires.tails_len); heads_after = c.loop-i.invariant.4 ∙ rw (done, take_all (length c.args.kept.now) (map (λ (a : ℕ × ℕ). a.1) (selected c.args.kept.now (net_of c.args.network.now.image.now)).arcs) (simp length-map (omega arith))) (whole _ c.args.heads.now c.requires.heads_len) }
