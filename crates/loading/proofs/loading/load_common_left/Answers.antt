-- `loading::load_common_left` lends as many places as there are arcs that are open in every column. Assumes nothing.
use Prim.Native.Nat.{ℕ, ◌*◌, ◌≤◌}
use native.Mathlib.Omega.{arith}
use native.Mathlib.Nat.{mul-le-mul_right}
use mathlib.Core.Path.{sym, ◌∙◌, ap, subst, subst₂}
use mathlib.Core.List.{List}
use lib.ListN.{length, drop}
use lib.Seq.{length-take-le, take_at}
use mathlib.Core.Bool.{◌&&◌}
use Rattle.terms.specs.Network.{open_everywhere}
use Rattle.image.specs.Layout.{net_of}
use Rattle.closures.specs.Map.{left, without}
use Rattle.loading.specs.Loaded.{star_size, Shared}
use Rattle.loading.proofs.DecodeLaws.{admitted, few_arcs}
use Rattle.loading.proofs.LoadLaws.{shared_left}
use Rattle.terms.proofs.RoomLaws.{part_long}
use Rattle.loading.proofs.loading.load_common_left.Goals as goal

pub fill_common-requires : goal.fill_common-requires
fill_common-requires c =
    let few : c.select_common-m.result ≤ length c.select_common-m.new.kept = omega (arith, c.select_common-m.ensures.0, c.select_common-m.auto.kept, (part_long 1000 _ (few_arcs c.args.network.now.accepted))) in
    let star_fits : star_size c.args.network.now.sizes.n c.select_common-m.result ≤ length c.args.star.now = omega (arith, c.select_common-m.ensures.0, c.requires.star_len) in
    let costs_fit : c.select_common-m.result * c.args.network.now.sizes.k ≤ length c.args.costs.now = omega (arith, mul-le-mul_right {m = c.select_common-m.result} {n = c.args.network.now.sizes.m} c.args.network.now.sizes.k c.select_common-m.ensures.0, c.requires.costs_len) in
    let m = length-take-le _ _ few in
    record { indices = record { test = λ i. left c.args.closed.now i && open_everywhere (net_of c.args.network.now.image.now) i; are = c.select_common-m.ensures.1 }; star_len = length-take-le _ _ star_fits ∙ ap (star_size c.args.network.now.sizes.n) (sym m); costs_len = length-take-le _ _ costs_fit ∙ ap (λ (x : ℕ). x * c.args.network.now.sizes.k) (sym m) }

pub returns : goal.returns
returns c =
    let few : c.select_common-m.result ≤ length c.select_common-m.new.kept = omega (arith, c.select_common-m.ensures.0, c.select_common-m.auto.kept, (part_long 1000 _ (few_arcs c.args.network.now.accepted))) in
    let star_fits : star_size c.args.network.now.sizes.n c.select_common-m.result ≤ length c.args.star.now = omega (arith, c.select_common-m.ensures.0, c.requires.star_len) in
    let costs_fit : c.select_common-m.result * c.args.network.now.sizes.k ≤ length c.args.costs.now = omega (arith, mul-le-mul_right {m = c.select_common-m.result} {n = c.args.network.now.sizes.m} c.args.network.now.sizes.k c.select_common-m.ensures.0, c.requires.costs_len) in
    let z = star_size c.args.network.now.sizes.n c.select_common-m.result in
    let all = c.select_common-m.result * c.args.network.now.sizes.k in
    let e = take_at c.fill_common.new.star (drop z c.args.star.now) z (c.fill_common.auto.star ∙ length-take-le _ _ star_fits) in
    let f = take_at c.fill_common.new.costs (drop all c.args.costs.now) all (c.fill_common.auto.costs ∙ length-take-le _ _ costs_fit) in
    (c.select_common-m.ensures.0, subst₂ (λ (x y : List ℕ). Shared (without c.args.closed.now (net_of c.args.network.now.image.now)) c.select_common-m.result x y) (sym e) (sym f) (subst (λ (x : ℕ). Shared (without c.args.closed.now (net_of c.args.network.now.image.now)) x c.fill_common.new.star c.fill_common.new.costs) (length-take-le _ _ few) (shared_left (admitted c.args.network.now.accepted) c.args.closed.now c.args.network.now.accepted.arcs_are c.select_common-m.ensures.1 c.fill_common.ensures.0 c.fill_common.ensures.1)))

pub select_common-m-requires : goal.select_common-m-requires
select_common-m-requires c = part_long 1000 _ (few_arcs c.args.network.now.accepted)

pub slice_bounds-indices-end : goal.slice_bounds-indices-end
slice_bounds-indices-end c = few_arcs c.args.network.now.accepted

pub slice_bounds-kept-end : goal.slice_bounds-kept-end
slice_bounds-kept-end c = sym (part_long 1000 _ (few_arcs c.args.network.now.accepted))

pub slice_bounds-fill_common-end : goal.slice_bounds-fill_common-end
slice_bounds-fill_common-end c =
    let few : c.select_common-m.result ≤ length c.select_common-m.new.kept = omega (arith, c.select_common-m.ensures.0, c.select_common-m.auto.kept, part_long 1000 _ (few_arcs c.args.network.now.accepted)) in
    sym (length-take-le _ _ few)
