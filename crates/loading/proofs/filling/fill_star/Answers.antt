-- `filling::fill_star`: each part is filled by a function whose contract says what it then holds, and they are put together. Assumes nothing.
use Prim.Native.Nat.{ℕ, ◌+◌}
use native.Mathlib.Omega.{arith}
use mathlib.Core.Path.{◌≡◌, ◌∙◌, ap, sym}
use Rattle.terms.proofs.RoomLaws.{part_long}
use Rattle.image.specs.Layout.{net_of}
use Rattle.star.proofs.ArcLaws.{chainable_of}
use Rattle.loading.specs.Selected.{selected}
use Rattle.loading.proofs.SelectLaws.{selected_nodes}
use Rattle.loading.proofs.DecodeLaws.{Decoded, decoded, selected_admitted}
use Rattle.loading.proofs.RoomLaws.{places_fit, starts_fit, kept_fit}
use Rattle.loading.proofs.ShapeLaws.{bare_arcs, rising_tails, shape_of}
use Rattle.loading.proofs.filling.fill_star.Goals as goal

pub slice_bounds-tail_room-end : goal.slice_bounds-tail_room-end
slice_bounds-tail_room-end c = kept_fit c.args.network.now.accepted c.requires.indices

pub slice_bounds-head_room-end : goal.slice_bounds-head_room-end
slice_bounds-head_room-end c = kept_fit c.args.network.now.accepted c.requires.indices

pub slice_bounds-next_room-end : goal.slice_bounds-next_room-end
slice_bounds-next_room-end c = kept_fit c.args.network.now.accepted c.requires.indices

pub slice_bounds-out_room-end : goal.slice_bounds-out_room-end
slice_bounds-out_room-end c = starts_fit c.args.network.now.accepted

pub slice_bounds-in_room-end : goal.slice_bounds-in_room-end
slice_bounds-in_room-end c = places_fit c.args.network.now.accepted

pub slice_bounds-tails-end : goal.slice_bounds-tails-end
slice_bounds-tails-end c = sym (part_long 1000 _ (kept_fit c.args.network.now.accepted c.requires.indices))

pub slice_bounds-heads-end : goal.slice_bounds-heads-end
slice_bounds-heads-end c = sym (part_long 1000 _ (kept_fit c.args.network.now.accepted c.requires.indices))

pub slice_bounds-next_in-end : goal.slice_bounds-next_in-end
slice_bounds-next_in-end c = sym (part_long 1000 _ (kept_fit c.args.network.now.accepted c.requires.indices))

pub slice_bounds-first_out-end : goal.slice_bounds-first_out-end
slice_bounds-first_out-end c = sym (part_long 202 _ (starts_fit c.args.network.now.accepted))

pub slice_bounds-first_in-end : goal.slice_bounds-first_in-end
slice_bounds-first_in-end c = sym (part_long 201 _ (places_fit c.args.network.now.accepted))

pub read_arcs-requires-clause-tails_len : goal.read_arcs-requires-clause-tails_len
read_arcs-requires-clause-tails_len c = part_long 1000 _ (kept_fit c.args.network.now.accepted c.requires.indices)

pub read_arcs-requires-clause-heads_len : goal.read_arcs-requires-clause-heads_len
read_arcs-requires-clause-heads_len c = part_long 1000 _ (kept_fit c.args.network.now.accepted c.requires.indices)

pub out_starts-requires : goal.out_starts-requires
out_starts-requires c =
    let held : Decoded (selected c.args.kept.now (net_of c.args.network.now.image.now)) c.read_arcs.new.tails c.read_arcs.new.heads = decoded (selected_admitted c.args.network.now.accepted c.requires.indices) _ _ c.read_arcs.ensures.tails_after c.read_arcs.ensures.heads_after in
    rising_tails held

pub chain-requires : goal.chain-requires
chain-requires c =
    let held : Decoded (selected c.args.kept.now (net_of c.args.network.now.image.now)) c.read_arcs.new.tails c.read_arcs.new.heads = decoded (selected_admitted c.args.network.now.accepted c.requires.indices) _ _ c.read_arcs.ensures.tails_after c.read_arcs.ensures.heads_after in
    let nodes_of : c.args.network.now.sizes.n ≡ (selected c.args.kept.now (net_of c.args.network.now.image.now)).nodes = c.args.network.now.accepted.nodes_are ∙ sym (selected_nodes c.args.kept.now (net_of c.args.network.now.image.now)) in
    let nodes_are : c.args.network.now.sizes.n + 1 ≡ (selected c.args.kept.now (net_of c.args.network.now.image.now)).nodes + 1 = ap (λ (x : ℕ). x + 1) nodes_of in
    let arcs = part_long 1000 _ (kept_fit c.args.network.now.accepted c.requires.indices) in
    chainable_of (bare_arcs held) (part_long 201 _ (places_fit c.args.network.now.accepted) ∙ nodes_are) (omega (arith, arcs, c.read_arcs.auto.tails))

pub assemble-requires : goal.assemble-requires
assemble-requires c =
    let arcs = part_long 1000 _ (kept_fit c.args.network.now.accepted c.requires.indices) in
    let ins = part_long 201 _ (places_fit c.args.network.now.accepted) in
    let outs = part_long 202 _ (starts_fit c.args.network.now.accepted) in
    omega (arith, c.requires.star_len, arcs, ins, outs, c.read_arcs.auto.tails, c.read_arcs.auto.heads, c.out_starts.auto.first_out, c.chain.auto.first_in, c.chain.auto.next_in)

pub returns : goal.returns
returns c =
    let held : Decoded (selected c.args.kept.now (net_of c.args.network.now.image.now)) c.read_arcs.new.tails c.read_arcs.new.heads = decoded (selected_admitted c.args.network.now.accepted c.requires.indices) _ _ c.read_arcs.ensures.tails_after c.read_arcs.ensures.heads_after in
    let nodes_of : c.args.network.now.sizes.n ≡ (selected c.args.kept.now (net_of c.args.network.now.image.now)).nodes = c.args.network.now.accepted.nodes_are ∙ sym (selected_nodes c.args.kept.now (net_of c.args.network.now.image.now)) in
    let nodes_are : c.args.network.now.sizes.n + 1 ≡ (selected c.args.kept.now (net_of c.args.network.now.image.now)).nodes + 1 = ap (λ (x : ℕ). x + 1) nodes_of in
    let nodes_more : c.args.network.now.sizes.n + 1 + 1 ≡ (selected c.args.kept.now (net_of c.args.network.now.image.now)).nodes + 2 = omega (arith, nodes_of) in
    let outs = c.out_starts.auto.first_out ∙ part_long 202 _ (starts_fit c.args.network.now.accepted) ∙ nodes_more in
    shape_of held _ _ _ outs (λ v k. c.out_starts.ensures v (omega (arith, k, outs))) c.chain.ensures (c.chain.auto.first_in ∙ part_long 201 _ (places_fit c.args.network.now.accepted) ∙ nodes_are) c.assemble.ensures
