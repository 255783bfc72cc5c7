-- `first_paths::list`: a start whose label is the mark has no path; else the loaded column is what the ranking asks for. Assumes nothing.
use Prim.Native.Nat.{ℕ}
use native.Mathlib.Omega.{arith}
use mathlib.Core.Path.{sym, ◌∙◌, ap}
use mathlib.Core.List.{[], ◌∷◌}
use lib.ListN.{length}
use Rattle.image.specs.Outcome.{gives, after}
use Rattle.image.proofs.OutcomeLaws.{outcome_fault, outcome_sound, after_fault}
use Rattle.outcomes.specs.Calls.{rank_rows_of, rank_costs_of, cleared}
use Rattle.column_calls.proofs.RankLaws.{slices_for, none_reached, some_reached, none_listed, some_listed, few_listed, light_paths, column_count, column_rows, column_costs}
use Rattle.outcomes.proofs.WorkLaws.{rank_problem, cleared_is, cleared_not}
use Rattle.loading.proofs.DecodeLaws.{few_arcs, few_nodes}
use Rattle.loading.proofs.RoomLaws.{places_fit, star_fits, local_room}
use Rattle.column_calls.proofs.first_paths.list.Goals as goal

pub returns-then-labels-trip : goal.returns-then-labels-trip
returns-then-labels-trip c =
    let column_loaded = c.load-graph.ensures.loaded in
    let e = none_reached c.args.trip.now.network.accepted.passes c.args.trip.now.in_column c.args.trip.now.ends column_loaded c.args.wanted c.if-labels-trip.true in
    let none = (none_listed c.args.trip.now.network.image.now c.args.trip.now.column c.args.trip.now.start c.args.trip.now.goal c.args.wanted c.args.trip.now.network.accepted.passes c.args.trip.now.in_column c.args.trip.now.ends c.requires.wanted_from (ap length e)).0 in
    record { result_value = sym (outcome_fault _ none); rows_after = sym (after_fault _ _ none); costs_after = sym (after_fault _ _ none); work_after = sym (cleared_not _ none) }

pub list_loaded-count-requires : goal.list_loaded-count-requires
list_loaded-count-requires c =
    let column_loaded = c.load-graph.ensures.loaded in
    record { list_slices = slices_for (c.load-graph.ensures.nodes ∙ c.args.trip.now.network.accepted.nodes_are) c.requires; costs_fit = light_paths c.args.trip.now.network.accepted.passes c.args.trip.now.in_column c.args.trip.now.ends column_loaded }

pub returns : goal.returns
returns c =
    let column_loaded = c.load-graph.ensures.loaded in
    let L = column_loaded in
    let n = (c.load-graph.ensures.nodes ∙ c.args.trip.now.network.accepted.nodes_are) in
    let count = column_count c.args.trip.now.network.accepted.passes c.args.trip.now.in_column c.args.trip.now.ends L n c.args.wanted _ c.list_loaded-count.ensures.value in
    let some = some_reached c.args.trip.now.network.accepted.passes c.args.trip.now.in_column c.args.trip.now.ends L c.requires.wanted_from c.if-labels-trip.false in
    let e = some_listed c.args.trip.now.network.image.now c.args.trip.now.column c.args.trip.now.start c.args.trip.now.goal c.args.wanted c.args.trip.now.network.accepted.passes c.args.trip.now.in_column c.args.trip.now.ends some in
    record {
      result_value = ap (λ (x : ℕ). gives (x ∷ [])) count ∙ sym (outcome_sound _ e);
      rows_after = column_rows c.args.trip.now.network.accepted.passes c.args.trip.now.in_column c.args.trip.now.ends L n c.args.wanted c.args.rows.now c.list_loaded-count.ensures.rows_after ∙ ap (λ f. after f (rank_rows_of c.args.trip.now.network.image.now c.args.trip.now.column c.args.trip.now.start c.args.trip.now.goal c.args.wanted) c.args.rows.now) (sym e);
      costs_after = column_costs c.args.trip.now.network.accepted.passes c.args.trip.now.in_column c.args.trip.now.ends L n c.args.wanted c.args.costs.now c.list_loaded-count.ensures.costs_after ∙ ap (λ f. after f (rank_costs_of c.args.trip.now.network.image.now c.args.trip.now.column c.args.trip.now.start c.args.trip.now.goal c.args.wanted) c.args.costs.now) (sym e);
      work_after = c.list_loaded-count.ensures.work_after ∙ cleared_is c.args.work.now ∙ ap (λ f. cleared f c.args.work.now) (sym e);
    }

pub overflow_cast-result : goal.overflow_cast-result
overflow_cast-result c = omega (arith, column_count c.args.trip.now.network.accepted.passes c.args.trip.now.in_column c.args.trip.now.ends c.load-graph.ensures.loaded (c.load-graph.ensures.nodes ∙ c.args.trip.now.network.accepted.nodes_are) c.args.wanted _ c.list_loaded-count.ensures.value, few_listed c.args.trip.now.network.image.now c.args.trip.now.column c.args.trip.now.start c.args.trip.now.goal c.args.wanted, c.requires.wanted_to)

pub invariant_of-query : goal.invariant_of-query
invariant_of-query c =
    let column_loaded = c.load-graph.ensures.loaded in
    record { posed = rank_problem c.args.trip.now.ends column_loaded (c.load-graph.ensures.nodes ∙ c.args.trip.now.network.accepted.nodes_are) }

pub load-graph-requires : goal.load-graph-requires
load-graph-requires c = local_room c.args.trip.now.network.accepted

pub overflow_cast-query : goal.overflow_cast-query
overflow_cast-query c = omega (arith, c.args.trip.now.ends.start_in, c.args.trip.now.network.accepted.nodes_are, few_nodes c.args.trip.now.network.accepted)

pub slice_bounds-star_room-end : goal.slice_bounds-star_room-end
slice_bounds-star_room-end c = star_fits c.args.trip.now.network.accepted

pub slice_bounds-weight_room-end : goal.slice_bounds-weight_room-end
slice_bounds-weight_room-end c = few_arcs c.args.trip.now.network.accepted

pub slice_bounds-label_room-end : goal.slice_bounds-label_room-end
slice_bounds-label_room-end c = places_fit c.args.trip.now.network.accepted

pub slice_bounds-star-end : goal.slice_bounds-star-end
slice_bounds-star-end c = sym (local_room c.args.trip.now.network.accepted).star_long

pub slice_bounds-weights-end : goal.slice_bounds-weights-end
slice_bounds-weights-end c = sym (local_room c.args.trip.now.network.accepted).weights_long

pub slice_bounds-labels-end : goal.slice_bounds-labels-end
slice_bounds-labels-end c = sym (local_room c.args.trip.now.network.accepted).labels_long
