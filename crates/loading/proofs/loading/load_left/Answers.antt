-- `loading::load_left` lends as many places as the column has arcs. Assumes nothing.
use Prim.Native.Nat.{ℕ, ◌≤◌}
use native.Mathlib.Omega.{arith}
use mathlib.Core.Path.{sym, ◌∙◌, ap, subst₂}
use mathlib.Core.List.{List}
use lib.ListN.{length, drop}
use lib.Seq.{length-take-le, take_at}
use mathlib.Core.Bool.{◌&&◌}
use Rattle.terms.specs.Network.{open_in}
use Rattle.terms.proofs.ListLaws.{and_both}
use Rattle.image.specs.Layout.{net_of}
use Rattle.closures.specs.Map.{left, without}
use Rattle.loading.specs.Loaded.{star_size, Loaded}
use Rattle.loading.proofs.DecodeLaws.{admitted, few_arcs}
use Rattle.loading.proofs.LoadLaws.{loaded_left}
use Rattle.terms.proofs.RoomLaws.{part_long}
use Rattle.loading.proofs.loading.load_left.Goals as goal

pub label_column-requires : goal.label_column-requires
label_column-requires c =
    let few : c.select_open-m.result ≤ length c.select_open-m.new.kept = omega (arith, c.select_open-m.ensures.0, c.select_open-m.auto.kept, (part_long 1000 _ (few_arcs c.args.network.now.accepted))) in
    let star_fits : star_size c.args.network.now.sizes.n c.select_open-m.result ≤ length c.args.star.now = omega (arith, c.select_open-m.ensures.0, c.requires.room.star_long) in
    let weights_fit : c.select_open-m.result ≤ length c.args.weights.now = omega (arith, c.select_open-m.ensures.0, c.requires.room.weights_long) in
    let m = length-take-le _ _ few in
    record { column = c.requires.column; goal = c.requires.goal; open_indices = record { test = λ i. left c.args.closed.now i && open_in (net_of c.args.network.now.image.now) c.args.u i; are = c.select_open-m.ensures.1; opened = λ i h. (and_both (left c.args.closed.now i) (open_in (net_of c.args.network.now.image.now) c.args.u i) h).1 }; room = record { star_long = length-take-le _ _ star_fits ∙ ap (star_size c.args.network.now.sizes.n) (sym m); weights_long = length-take-le _ _ weights_fit ∙ sym m; labels_long = c.requires.room.labels_long } }

pub returns : goal.returns
returns c =
    let star_fits : star_size c.args.network.now.sizes.n c.select_open-m.result ≤ length c.args.star.now = omega (arith, c.select_open-m.ensures.0, c.requires.room.star_long) in
    let weights_fit : c.select_open-m.result ≤ length c.args.weights.now = omega (arith, c.select_open-m.ensures.0, c.requires.room.weights_long) in
    let z = star_size c.args.network.now.sizes.n c.select_open-m.result in
    let e = take_at c.label_column.new.star (drop z c.args.star.now) z (c.label_column.auto.star ∙ length-take-le _ _ star_fits) in
    let f = take_at c.label_column.new.weights (drop c.select_open-m.result c.args.weights.now) c.select_open-m.result (c.label_column.auto.weights ∙ length-take-le _ _ weights_fit) in
    (c.select_open-m.ensures.0, subst₂ (λ (x y : List ℕ). Loaded (without c.args.closed.now (net_of c.args.network.now.image.now)) c.args.u c.args.goal x y c.label_column.new.overall) (sym e) (sym f) (loaded_left (admitted c.args.network.now.accepted) c.requires.column.from c.requires.column.upto c.args.closed.now c.args.network.now.accepted.arcs_are c.select_open-m.ensures.1 c.label_column.ensures))

pub select_open-m-requires-clause-kept_len : goal.select_open-m-requires-clause-kept_len
select_open-m-requires-clause-kept_len c = part_long 1000 _ (few_arcs c.args.network.now.accepted)

pub slice_bounds-indices-end : goal.slice_bounds-indices-end
slice_bounds-indices-end c = few_arcs c.args.network.now.accepted

pub slice_bounds-kept-end : goal.slice_bounds-kept-end
slice_bounds-kept-end c = sym (part_long 1000 _ (few_arcs c.args.network.now.accepted))

pub slice_bounds-label_column-end : goal.slice_bounds-label_column-end
slice_bounds-label_column-end c =
    let few : c.select_open-m.result ≤ length c.select_open-m.new.kept = omega (arith, c.select_open-m.ensures.0, c.select_open-m.auto.kept, part_long 1000 _ (few_arcs c.args.network.now.accepted)) in
    sym (length-take-le _ _ few)
