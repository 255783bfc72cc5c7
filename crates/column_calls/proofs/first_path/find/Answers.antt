-- `first_path::find` loads the column and finds its first path. Assumes nothing.
use native.Mathlib.Omega.{arith}
use mathlib.Core.Path.{sym}
use Rattle.loading.proofs.DecodeLaws.{few_arcs, few_nodes}
use Rattle.loading.proofs.RoomLaws.{places_fit, star_fits, local_room}
use Rattle.column_calls.proofs.RankLaws.{found_in_column}
use Rattle.column_calls.proofs.first_path.find.Goals as goal

pub load-graph-requires : goal.load-graph-requires
load-graph-requires c = local_room c.args.trip.now.network.accepted

pub shortest-requires : goal.shortest-requires
shortest-requires c =
    let L = c.load-graph.ensures.loaded in
    let long = L.labels_long in
    let ends = c.args.trip.now.ends in
    record { overall_long = omega (arith, long, c.load-graph.ensures.nodes, c.args.trip.now.network.accepted.nodes_are); ends = record { start_from = ends.start_in.from; start_place = omega (arith, ends.start_in, long); goal_place = omega (arith, ends.goal_in, long); apart = ends.apart }; path_long = omega (arith, long, c.requires); least = L.least }

pub returns : goal.returns
returns c = record { extent = c.shortest.ensures.extent; first_found = found_in_column c.load-graph.ensures.loaded c.shortest.ensures.first_found }

pub overflow_cast-trip : goal.overflow_cast-trip
overflow_cast-trip c = omega (arith, c.args.trip.now.ends.start_in, c.args.trip.now.network.accepted.nodes_are, few_nodes c.args.trip.now.network.accepted)

pub slice_bounds-star_room-end : goal.slice_bounds-star_room-end
slice_bounds-star_room-end c = star_fits c.args.trip.now.network.accepted

pub slice_bounds-weight_room-end : goal.slice_bounds-weight_room-end
slice_bounds-weight_room-end c = few_arcs c.args.trip.now.network.accepted

pub slice_bounds-label_room-end : goal.slice_bounds-label_room-end
slice_bounds-label_room-end c = places_fit c.args.trip.now.network.accepted

pub slice_bounds-star-end : goal.slice_bounds-star-end
slice_bounds-star-end c = sym (local_room c.args.trip.now.network.accepted).star_long

pub slice_bounds-weights-end : goal.slice_bounds-weights-end
slice_bounds-weights-end c = sym (local_room c.args.trip.now.network.accepted).weights_long

pub slice_bounds-labels-end : goal.slice_bounds-labels-end
slice_bounds-labels-end c = sym (local_room c.args.trip.now.network.accepted).labels_long
