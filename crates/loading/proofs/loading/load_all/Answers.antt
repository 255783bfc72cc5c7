-- `loading::load_all`: all indices are numbered, and what is selected by them is the whole network. Assumes nothing.
use Prim.Native.Nat.{ℕ, ◌*◌}
use native.Mathlib.Omega.{arith}
use mathlib.Core.Path.{◌≡◌, sym, ◌∙◌, ap, subst}
use lib.ListN.{length}
use Rattle.terms.specs.Lists.{numbers}
use Rattle.image.specs.Layout.{net_of}
use Rattle.loading.specs.Selected.{Indices, selected, in_a_row}
use Rattle.loading.specs.Loaded.{star_size, Shape}
use Rattle.loading.proofs.SelectLaws.{all_indices, selected_all}
use Rattle.loading.proofs.DecodeLaws.{admitted, few_arcs}
use Rattle.terms.proofs.RoomLaws.{part_long}
use Rattle.loading.proofs.loading.load_all.Goals as goal

pub number_arcs-requires : goal.number_arcs-requires
number_arcs-requires c = omega (arith, (part_long 1000 _ (few_arcs c.args.network.now.accepted)), few_arcs c.args.network.now.accepted)

pub fill_star-requires : goal.fill_star-requires
fill_star-requires c =
    let long : length c.number_arcs.new.kept ≡ c.args.network.now.sizes.m = c.number_arcs.auto.kept ∙ (part_long 1000 _ (few_arcs c.args.network.now.accepted)) in
    let all : c.number_arcs.new.kept ≡ numbers 0 c.args.network.now.sizes.m = c.number_arcs.ensures ∙ ap (numbers 0) (part_long 1000 _ (few_arcs c.args.network.now.accepted)) in
    let indices : Indices c.args.network.now.sizes.m c.number_arcs.new.kept = subst (Indices c.args.network.now.sizes.m) (sym all) (all_indices c.args.network.now.sizes.m) in
    record { indices = indices; star_len = c.requires.star_len ∙ ap (star_size c.args.network.now.sizes.n) (sym long) }

pub read_columns-requires : goal.read_columns-requires
read_columns-requires c =
    let long : length c.number_arcs.new.kept ≡ c.args.network.now.sizes.m = c.number_arcs.auto.kept ∙ (part_long 1000 _ (few_arcs c.args.network.now.accepted)) in
    let all : c.number_arcs.new.kept ≡ numbers 0 c.args.network.now.sizes.m = c.number_arcs.ensures ∙ ap (numbers 0) (part_long 1000 _ (few_arcs c.args.network.now.accepted)) in
    let indices : Indices c.args.network.now.sizes.m c.number_arcs.new.kept = subst (Indices c.args.network.now.sizes.m) (sym all) (all_indices c.args.network.now.sizes.m) in
    record { indices = indices; costs_len = c.requires.costs_len ∙ ap (λ (x : ℕ). x * c.args.network.now.sizes.k) (sym long) }

pub returns : goal.returns
returns c =
    let all : c.number_arcs.new.kept ≡ numbers 0 c.args.network.now.sizes.m = c.number_arcs.ensures ∙ ap (numbers 0) (part_long 1000 _ (few_arcs c.args.network.now.accepted)) in
    let net = net_of c.args.network.now.image.now in
    let same : selected c.number_arcs.new.kept net ≡ net = ap (λ k. selected k net) all ∙ selected_all (admitted c.args.network.now.accepted) c.args.network.now.accepted.arcs_are in
    (subst (λ x. Shape x c.fill_star.new.star) same c.fill_star.ensures, c.read_columns.ensures ∙ ap (λ x. in_a_row x.columns) same)

pub slice_bounds-indices-end : goal.slice_bounds-indices-end
slice_bounds-indices-end c = few_arcs c.args.network.now.accepted

pub slice_bounds-kept-end : goal.slice_bounds-kept-end
slice_bounds-kept-end c = sym (part_long 1000 _ (few_arcs c.args.network.now.accepted))
