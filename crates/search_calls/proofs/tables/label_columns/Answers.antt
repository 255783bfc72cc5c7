-- `tables::label_columns`: the first u columns are labelled. Assumes nothing.
use Prim.Native.Nat.{ℕ, suc, ◌+◌, ◌*◌, ◌-◌, ◌≤◌}
use native.Mathlib.Omega.{arith}
use native.Mathlib.Nat.{mul-le-mul_right, suc-mul}
use mathlib.Core.Path.{◌≡◌, sym, ◌∙◌, subst}
use lib.ListN.{length}
use borrow.Rule.Slice.PartMut.{mid_len}
use Rattle.image.specs.Layout.{net_of}
use Rattle.terms.proofs.RoomLaws.{part_long}
use Rattle.loading.proofs.DecodeLaws.{admitted, few_arcs}
use Rattle.loading.proofs.RoomLaws.{star_fits}
use Rattle.search_calls.proofs.LabelLaws.{LabelRow, loaded_row, none_labelled, one_labelled, all_labelled}
use Rattle.search_calls.proofs.tables.label_columns.Goals as goal

pub loop-u-init : goal.loop-u-init
loop-u-init c = none_labelled

pub load_whole-requires : goal.load_whole-requires
load_whole-requires c =
    let P = c.args.network.now.sizes.n + 1 in
    let from = c.loop-u.u * P in
    let inside : from + P ≤ length c.loop-u.labels = omega (arith, c.loop-u.auto.labels, c.requires.labels_len, suc-mul c.loop-u.u P, mul-le-mul_right {m = suc c.loop-u.u} {n = c.args.network.now.sizes.k} P c.loop-u-test.true) in
    let same : from + P - from ≡ P = omega arith in
    record { column = record { from = omega arith; upto = omega (arith, c.loop-u-test.true, c.args.network.now.accepted.columns_are) }; goal = c.requires.goal; room = record { star_long = c.loop-u.auto.star ∙ (part_long 3403 _ (star_fits c.args.network.now.accepted)); weights_long = c.loop-u.auto.weights ∙ (part_long 1000 _ (few_arcs c.args.network.now.accepted)); labels_long = mid_len from (from + P) c.loop-u.labels inside ∙ same } }

pub loop-u-preserved : goal.loop-u-preserved
loop-u-preserved c =
    let P = c.args.network.now.sizes.n + 1 in
    let from = c.loop-u.u * P in
    let inside : from + P ≤ length c.loop-u.labels = omega (arith, c.loop-u.auto.labels, c.requires.labels_len, suc-mul c.loop-u.u P, mul-le-mul_right {m = suc c.loop-u.u} {n = c.args.network.now.sizes.k} P c.loop-u-test.true) in
    let net = net_of c.args.network.now.image.now in
    let R : LabelRow net c.args.goal (c.loop-u.u + 1) P c.load_whole.new.overall = subst (λ (n : ℕ). LabelRow net c.args.goal (c.loop-u.u + 1) (n + 1) c.load_whole.new.overall) (sym c.args.network.now.accepted.nodes_are) (loaded_row (admitted c.args.network.now.accepted) (omega arith) (omega (arith, c.loop-u-test.true, c.args.network.now.accepted.columns_are)) c.load_whole.ensures.1) in
    one_labelled (from + P - from) c.loop-u.invariant R inside

pub returns : goal.returns
returns c =
    let done : c.loop-u.u ≡ c.args.network.now.sizes.k = omega (arith, c.loop-u.auto, c.loop-u-test.false) in
    all_labelled (rw done at c.loop-u.invariant) (c.loop-u.auto.labels ∙ c.requires.labels_len)

pub slice_bounds-star_room-end : goal.slice_bounds-star_room-end
slice_bounds-star_room-end c = star_fits c.args.network.now.accepted

pub slice_bounds-weight_room-end : goal.slice_bounds-weight_room-end
slice_bounds-weight_room-end c = few_arcs c.args.network.now.accepted

pub slice_bounds-star-end : goal.slice_bounds-star-end
slice_bounds-star-end c = sym (part_long 3403 _ (star_fits c.args.network.now.accepted))

pub slice_bounds-weights-end : goal.slice_bounds-weights-end
slice_bounds-weights-end c = sym (part_long 1000 _ (few_arcs c.args.network.now.accepted))
