-- `standing::same_bests` lends parts of local arrays: a place for each column. Assumes nothing.
use mathlib.Core.Path.{◌∙◌, ap₂, sym}
use Rattle.closures.specs.Standing.{alike}
use Rattle.closures.proofs.TestLaws.{alike_is}
use Rattle.terms.proofs.RoomLaws.{part_long}
use Rattle.loading.proofs.DecodeLaws.{few_columns}
use Rattle.week_calls.proofs.standing.same_bests.Goals as goal

pub slice_bounds-before-end : goal.slice_bounds-before-end
slice_bounds-before-end c = sym (part_long 8 _ (few_columns c.args.network.now.accepted))

pub slice_bounds-after-end : goal.slice_bounds-after-end
slice_bounds-after-end c = sym (part_long 8 _ (few_columns c.args.network.now.accepted))

pub own_bests-requires-clause-bests_len : goal.own_bests-requires-clause-bests_len
own_bests-requires-clause-bests_len c = part_long 8 _ (few_columns c.args.network.now.accepted)

pub own_bests-requires-2-clause-bests_len : goal.own_bests-requires-2-clause-bests_len
own_bests-requires-2-clause-bests_len c = part_long 8 _ (few_columns c.args.network.now.accepted)

pub returns : goal.returns
returns c = c.eq.ensures ∙ alike_is c.own_bests.new.bests c.own_bests-2.new.bests ∙ ap₂ alike c.own_bests.ensures c.own_bests-2.ensures

pub slice_bounds-old_room-end : goal.slice_bounds-old_room-end
slice_bounds-old_room-end c = few_columns c.args.network.now.accepted

pub slice_bounds-new_room-end : goal.slice_bounds-new_room-end
slice_bounds-new_room-end c = few_columns c.args.network.now.accepted
