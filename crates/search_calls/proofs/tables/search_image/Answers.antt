-- `tables::search_image`: what is loaded, labelled and taken are the tables of the search. Assumes nothing.
use Prim.Native.Nat.{ℕ, ◌+◌, ◌*◌, ◌≤◌}
use native.Mathlib.Omega.{arith}
use native.Mathlib.Nat.{mul-le-mul}
use mathlib.Core.Path.{sym, ◌∙◌, ap}
use mathlib.Core.List.{List}
use Rattle.terms.proofs.RoomLaws.{part_long}
use Rattle.image.specs.declared.check.Sizes.{Sizes}
use Rattle.loading.specs.Accepted.{Accepted}
use Rattle.loading.proofs.DecodeLaws.{few_nodes, few_columns}
use Rattle.loading.proofs.RoomLaws.{places_fit, star_fits, all_fit}
use Rattle.search_calls.proofs.TableLaws.{image_fits, image_tables}
use Rattle.search_calls.proofs.tables.search_image.Goals as goal

rows_fit : {b : List ℕ} {z : Sizes} → Accepted b z → z.k * (z.n + 1) ≤ 1608
rows_fit a = mul-le-mul (few_columns a) (places_fit a)

pub load_all-requires : goal.load_all-requires
load_all-requires c =
    record { star_len = part_long 3403 _ (star_fits c.args.network.now.accepted); costs_len = part_long 8000 _ (all_fit c.args.network.now.accepted) }

pub label_columns-requires : goal.label_columns-requires
label_columns-requires c =
    record { goal = c.requires.reached.ends.goal_in; labels_len = part_long 1608 _ (rows_fit c.args.network.now.accepted) }

pub take_bests-requires : goal.take_bests-requires
take_bests-requires c = (
  c.label_columns.auto.labels ∙ part_long 1608 _ (rows_fit c.args.network.now.accepted) ∙ ap (λ (k : ℕ). k * (c.args.network.now.sizes.n + 1)) (sym (part_long 8 _ (few_columns c.args.network.now.accepted))),
  omega (arith, c.from.ensures, c.args.network.now.accepted.nodes_are, c.requires.reached.ends.start_in.upto),
  omega (arith, (part_long 8 _ (few_columns c.args.network.now.accepted)), few_columns c.args.network.now.accepted),
  omega (arith, few_nodes c.args.network.now.accepted),
)

pub invariant_of-columns : goal.invariant_of-columns
invariant_of-columns c = record { fits = image_fits c.args.network.now.accepted c.args.task.start c.load_all.ensures.0 c.load_all.ensures.1 c.label_columns.ensures c.take_bests.new.bests (c.take_bests.auto.bests ∙ (part_long 8 _ (few_columns c.args.network.now.accepted))) }

pub search-requires : goal.search-requires
search-requires c = (c.requires.reached.ends.start_in.from, omega (arith, c.args.network.now.accepted.nodes_are, c.requires.reached.ends.start_in.upto), omega (arith, c.requires.best_long))

pub returns : goal.returns
returns c =
    let taken = rw c.from.ensures at c.take_bests.ensures in
    c.search.ensures _ (image_tables c.args.network.now.accepted c.args.task.start c.load_all.ensures.0 c.load_all.ensures.1 c.label_columns.ensures c.take_bests.new.bests (c.take_bests.auto.bests ∙ (part_long 8 _ (few_columns c.args.network.now.accepted))) c.requires.reached taken)

pub slice_bounds-star_room-end : goal.slice_bounds-star_room-end
slice_bounds-star_room-end c = star_fits c.args.network.now.accepted

pub slice_bounds-cost_room-end : goal.slice_bounds-cost_room-end
slice_bounds-cost_room-end c = all_fit c.args.network.now.accepted

pub slice_bounds-label_room-end : goal.slice_bounds-label_room-end
slice_bounds-label_room-end c = rows_fit c.args.network.now.accepted

pub slice_bounds-best_room-end : goal.slice_bounds-best_room-end
slice_bounds-best_room-end c = few_columns c.args.network.now.accepted

pub slice_bounds-star-end : goal.slice_bounds-star-end
slice_bounds-star-end c = sym (part_long 3403 _ (star_fits c.args.network.now.accepted))

pub slice_bounds-costs-end : goal.slice_bounds-costs-end
slice_bounds-costs-end c = sym (part_long 8000 _ (all_fit c.args.network.now.accepted))

pub slice_bounds-labels-end : goal.slice_bounds-labels-end
slice_bounds-labels-end c = sym (part_long 1608 _ (rows_fit c.args.network.now.accepted))

pub slice_bounds-bests-end : goal.slice_bounds-bests-end
slice_bounds-bests-end c = sym (part_long 8 _ (few_columns c.args.network.now.accepted))
