-- `find::seek_arc` searches what it read at all indices. Assumes nothing.
use native.Mathlib.Omega.{arith}
use mathlib.Core.Path.{◌≡◌, sym, ◌∙◌, ap, subst}
use Rattle.terms.specs.Lists.{numbers}
use Rattle.terms.proofs.RoomLaws.{part_long}
use Rattle.loading.specs.Selected.{Indices}
use Rattle.loading.proofs.SelectLaws.{all_indices}
use Rattle.loading.proofs.DecodeLaws.{few_arcs}
use Rattle.arc_calls.proofs.FindLaws.{sought_in}
use Rattle.arc_calls.proofs.find.seek_arc.Goals as goal

pub number_arcs-requires : goal.number_arcs-requires
number_arcs-requires c = omega (arith, part_long 1000 _ (few_arcs c.args.network.now.accepted), few_arcs c.args.network.now.accepted)

pub read_arcs-requires : goal.read_arcs-requires
read_arcs-requires c =
    let all : c.number_arcs.new.kept ≡ numbers 0 c.args.network.now.sizes.m = c.number_arcs.ensures ∙ ap (numbers 0) (part_long 1000 _ (few_arcs c.args.network.now.accepted)) in
    let long = c.number_arcs.auto.kept ∙ part_long 1000 _ (few_arcs c.args.network.now.accepted) in
    record { indices = subst (Indices c.args.network.now.sizes.m) (sym all) (all_indices c.args.network.now.sizes.m); tails_len = part_long 1000 _ (few_arcs c.args.network.now.accepted) ∙ sym long; heads_len = part_long 1000 _ (few_arcs c.args.network.now.accepted) ∙ sym long }

pub find_arc-requires : goal.find_arc-requires
find_arc-requires c =
    let long = c.number_arcs.auto.kept ∙ part_long 1000 _ (few_arcs c.args.network.now.accepted) in
    (omega (arith, c.read_arcs.auto.tails, part_long 1000 _ (few_arcs c.args.network.now.accepted), long), omega (arith, c.read_arcs.auto.heads, part_long 1000 _ (few_arcs c.args.network.now.accepted), long), omega (arith, long, few_arcs c.args.network.now.accepted))

pub returns : goal.returns
returns c =
    let all : c.number_arcs.new.kept ≡ numbers 0 c.args.network.now.sizes.m = c.number_arcs.ensures ∙ ap (numbers 0) (part_long 1000 _ (few_arcs c.args.network.now.accepted)) in
    sought_in c.args.network.now.accepted c.args.tail c.args.head all c.read_arcs.ensures.tails_after c.read_arcs.ensures.heads_after c.find_arc.ensures.by_halving

pub slice_bounds-arc_room-end : goal.slice_bounds-arc_room-end
slice_bounds-arc_room-end c = few_arcs c.args.network.now.accepted

pub slice_bounds-tail_room-end : goal.slice_bounds-tail_room-end
slice_bounds-tail_room-end c = few_arcs c.args.network.now.accepted

pub slice_bounds-head_room-end : goal.slice_bounds-head_room-end
slice_bounds-head_room-end c = few_arcs c.args.network.now.accepted

pub slice_bounds-arcs-end : goal.slice_bounds-arcs-end
slice_bounds-arcs-end c = sym (part_long 1000 _ (few_arcs c.args.network.now.accepted))

pub slice_bounds-tails-end : goal.slice_bounds-tails-end
slice_bounds-tails-end c = sym (part_long 1000 _ (few_arcs c.args.network.now.accepted))

pub slice_bounds-heads-end : goal.slice_bounds-heads-end
slice_bounds-heads-end c = sym (part_long 1000 _ (few_arcs c.args.network.now.accepted))
