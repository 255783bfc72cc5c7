-- `label::write_labels` writes the labels of the column, as REFERENCE, section 4.2, has them. Assumes nothing.
use Prim.Native.Nat.{ℕ, ◌-◌}
use native.Mathlib.Omega.{arith}
use mathlib.Core.Path.{◌≡◌, sym, ◌∙◌, ap₂}
use mathlib.Core.List.{List, ◌++◌}
use lib.ListN.{length, drop}
use Rattle.image.specs.Layout.{net_of}
use Rattle.loading.proofs.DecodeLaws.{admitted, few_arcs}
use Rattle.loading.proofs.RoomLaws.{places_fit, star_fits, local_room}
use Rattle.loading.proofs.LoadLaws.{loaded_least}
use Rattle.outcomes.specs.Calls.{labels_of}
use Rattle.outcomes.proofs.LabelLaws.{narrow_at, labels_are}
use Rattle.column_calls.proofs.label.write_labels.Goals as goal

pub write_narrow-requires : goal.write_narrow-requires
write_narrow-requires c =
    record { labels_long = omega (arith, c.load_whole.ensures.1.labels_long, c.requires.room); exact_narrow = narrow_at (admitted c.args.network.now.accepted) c.requires.column.from c.requires.column.upto c.load_whole.ensures.1.labels_long (loaded_least c.load_whole.ensures.1) }

pub returns : goal.returns
unfolding labels_of
returns c =
    let count : length c.load_whole.new.overall - 1 ≡ (net_of c.args.network.now.image.now).nodes = omega (arith, c.load_whole.ensures.1.labels_long) in
    c.write_narrow.ensures ∙ ap₂ (λ (new : List ℕ) (n : ℕ). new ++ drop n c.args.labels.now) (labels_are (admitted c.args.network.now.accepted) c.requires.column.from c.requires.column.upto c.load_whole.ensures.1.labels_long (loaded_least c.load_whole.ensures.1)) count

pub slice_bounds-star_room-end : goal.slice_bounds-star_room-end
slice_bounds-star_room-end c = star_fits c.args.network.now.accepted

pub slice_bounds-weight_room-end : goal.slice_bounds-weight_room-end
slice_bounds-weight_room-end c = few_arcs c.args.network.now.accepted

pub slice_bounds-label_room-end : goal.slice_bounds-label_room-end
slice_bounds-label_room-end c = places_fit c.args.network.now.accepted

pub slice_bounds-star-end : goal.slice_bounds-star-end
slice_bounds-star-end c = sym (local_room c.args.network.now.accepted).star_long

pub slice_bounds-weights-end : goal.slice_bounds-weights-end
slice_bounds-weights-end c = sym (local_room c.args.network.now.accepted).weights_long

pub slice_bounds-exact-end : goal.slice_bounds-exact-end
slice_bounds-exact-end c = sym (local_room c.args.network.now.accepted).labels_long

pub load_whole-requires : goal.load_whole-requires
load_whole-requires c =
    record { column = c.requires.column; goal = c.requires.goal; room = local_room c.args.network.now.accepted }
