-- `shortest::write_shortest` meets its contract. Assumes nothing.
use Prim.Native.Nat.{◌+◌, ◌≤◌, ◌<◌}
use native.Mathlib.Omega.{arith}
use mathlib.Core.Path.{◌≡◌, refl, sym, ◌∙◌, ap}
use mathlib.Core.List.{[], ◌∷◌}
use lib.ListN.{length, take}
use Rattle.terms.specs.Network.{column}
use Rattle.terms.specs.Paths.{cost}
use Rattle.branching.specs.Branches.{everything, First}
use Rattle.branching.proofs.FirstLaws.{found_tail, found_empty, extent_tail}
use Rattle.image.specs.Layout.{net_of}
use Rattle.image.specs.Outcome.{gives}
use Rattle.image.proofs.OutcomeLaws.{outcome_fault, outcome_sound, after_fault}
use Rattle.loading.proofs.DecodeLaws.{few_nodes}
use Rattle.outcomes.proofs.ShortestLaws.{path_none, path_some, path_cost, rest_is, values_are, written_is}
use Rattle.terms.proofs.RoomLaws.{part_long}
use Rattle.column_calls.proofs.shortest.write_shortest.Goals as goal

pub returns-in_default : goal.returns-in_default
returns-in_default c =
    let e = path_none c.args.trip.now.network.accepted.passes c.args.trip.now.in_column c.args.trip.now.ends (found_empty c.find-found.ensures.first_found c.in_default.is) in
    record { result_value = sym (outcome_fault _ e); path_after = sym (after_fault _ _ e) }

pub write_path-requires : goal.write_path-requires
write_path-requires c =
    let reach : (1 < c.in-Some.field-0.len) × (c.in-Some.field-0.len ≤ length c.find-found.new.route) = extent_tail c.find-found.ensures.extent c.in-Some.is in
    (reach.1, omega (arith, reach.1, c.find-found.auto, (part_long 200 _ (few_nodes c.args.trip.now.network.accepted) ∙ c.args.trip.now.network.accepted.nodes_are), c.requires))

pub returns : goal.returns
returns c =
    let first : let g = column (net_of c.args.trip.now.network.image.now) c.args.trip.now.column in First g c.args.trip.now.start c.args.trip.now.goal (everything c.args.trip.now.start) (take c.in-Some.field-0.len c.find-found.new.route) × (cost g (take c.in-Some.field-0.len c.find-found.new.route) ≡ cost g (c.args.trip.now.start ∷ []) + c.in-Some.field-0.cost) = found_tail c.find-found.ensures.first_found c.in-Some.is in
    let reach : (1 < c.in-Some.field-0.len) × (c.in-Some.field-0.len ≤ length c.find-found.new.route) = extent_tail c.find-found.ensures.extent c.in-Some.is in
    let f = first in
    record { result_value = ap gives (values_are c.args.trip.now.network.accepted.passes c.args.trip.now.in_column c.args.trip.now.ends f.0 _ _ refl reach.1 f.1) ∙ sym (outcome_sound _ (path_some c.args.trip.now.network.accepted.passes c.args.trip.now.in_column c.args.trip.now.ends f.0)); path_after = c.write_path.ensures ∙ written_is c.args.trip.now.network.accepted.passes c.args.trip.now.in_column c.args.trip.now.ends f.0 _ _ refl reach.1 f.1 _ }

pub overflow_cast-result-2 : goal.overflow_cast-result-2
overflow_cast-result-2 c =
    let first : let g = column (net_of c.args.trip.now.network.image.now) c.args.trip.now.column in First g c.args.trip.now.start c.args.trip.now.goal (everything c.args.trip.now.start) (take c.in-Some.field-0.len c.find-found.new.route) × (cost g (take c.in-Some.field-0.len c.find-found.new.route) ≡ cost g (c.args.trip.now.start ∷ []) + c.in-Some.field-0.cost) = found_tail c.find-found.ensures.first_found c.in-Some.is in
    let reach : (1 < c.in-Some.field-0.len) × (c.in-Some.field-0.len ≤ length c.find-found.new.route) = extent_tail c.find-found.ensures.extent c.in-Some.is in
    omega (arith, rest_is c.args.trip.now.network.accepted.passes c.args.trip.now.in_column c.args.trip.now.ends first.0 _ _ refl reach.1 first.1, path_cost c.args.trip.now.network.accepted.passes c.args.trip.now.in_column c.args.trip.now.ends first.0)

pub overflow_cast-result : goal.overflow_cast-result
overflow_cast-result c =
    let reach : (1 < c.in-Some.field-0.len) × (c.in-Some.field-0.len ≤ length c.find-found.new.route) = extent_tail c.find-found.ensures.extent c.in-Some.is in
    omega (arith, c.find-found.auto.route, (part_long 200 _ (few_nodes c.args.trip.now.network.accepted) ∙ c.args.trip.now.network.accepted.nodes_are), c.args.trip.now.network.accepted.nodes_are, few_nodes c.args.trip.now.network.accepted)

pub find-found-requires : goal.find-found-requires
find-found-requires c = part_long 200 _ (few_nodes c.args.trip.now.network.accepted) ∙ c.args.trip.now.network.accepted.nodes_are

pub slice_bounds-route_room-end : goal.slice_bounds-route_room-end
slice_bounds-route_room-end c = few_nodes c.args.trip.now.network.accepted

pub slice_bounds-route-end : goal.slice_bounds-route-end
slice_bounds-route-end c = sym (part_long 200 _ (few_nodes c.args.trip.now.network.accepted))
