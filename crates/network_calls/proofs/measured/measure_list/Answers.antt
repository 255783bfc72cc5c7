-- `measured::measure_list`: there is room for all arcs and columns, and no arc is closed beside the image. Assumes nothing.
use mathlib.Core.Path.{◌∙◌}
use Rattle.terms.proofs.RoomLaws.{part_long}
use Rattle.loading.proofs.RoomLaws.{star_fits, all_fit}
use Rattle.network_calls.proofs.SharedLaws.{whole_columns, count_image}
use Rattle.network_calls.proofs.measured.measure_list.Goals as goal

pub load_columns-columns-requires : goal.load_columns-columns-requires
load_columns-columns-requires c = record { star_room = star_fits c.args.network.now.accepted; costs_room = all_fit c.args.network.now.accepted }

pub measure_shared-requires : goal.measure_shared-requires
measure_shared-requires c =
    let columns = c.load_columns-columns.result in
    record { common = whole_columns c.args.network.now.image.now columns c.load_columns-columns.ensures; bests_long = part_long 8 columns.count columns.held.columns_to ∙ count_image c.args.network.now.accepted _ columns c.load_columns-columns.ensures; ends = c.requires }
