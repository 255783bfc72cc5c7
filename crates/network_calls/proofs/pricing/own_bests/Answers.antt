-- `pricing::own_bests`, in parts of local arrays: the bests of the first u columns are found. Assumes nothing.
use Prim.Native.Nat.{ℕ, ◌+◌, ◌-◌, ◌≤◌, ◌<◌}
use native.Mathlib.Omega.{arith}
use mathlib.Core.Path.{◌≡◌, refl, sym, ◌∙◌, ap₂}
use mathlib.Core.List.{List}
use lib.ListN.{length, set, length-set}
use Rattle.terms.specs.Network.{Net, column}
use Rattle.terms.specs.Regret.{label}
use Rattle.image.specs.Layout.{net_of}
use Rattle.closures.specs.Map.{without}
use Rattle.loading.proofs.DecodeLaws.{few_arcs, few_nodes}
use Rattle.loading.proofs.RoomLaws.{places_fit, star_fits, local_room}
use Rattle.measuring.proofs.BestLaws.{filled_more}
use Rattle.network_calls.proofs.SharedLaws.{rest_admitted, rest_columns, rest_ends, own_label, own_narrow, own_bests}
use Rattle.network_calls.proofs.pricing.own_bests.Goals as goal

abbrev rest : List ℕ → List ℕ → Net
rest closed image = without closed (net_of image)

pub loop-u-preserved : goal.loop-u-preserved
loop-u-preserved c =
    let inside : c.loop-u.u + 1 ≤ length (rest c.args.closed.now c.args.network.now.image.now).columns = omega (arith, c.loop-u-test.true, rest_columns c.args.network.now.accepted c.args.closed.now) in
    let own : c.from.result ≡ label (rest c.args.closed.now c.args.network.now.image.now).nodes (column (rest c.args.closed.now c.args.network.now.image.now) (c.loop-u.u + 1)) c.args.goal c.args.start = let E = rest_ends c.args.network.now.accepted c.args.closed.now c.requires.ends in c.from.ensures ∙ c.narrow.ensures ∙ own_label (rest_admitted c.args.network.now.accepted c.args.closed.now) c.load_left.ensures.1 (omega arith) inside E.start_in.from E.start_in.upto in
    let net = rest c.args.closed.now c.args.network.now.image.now in
    let room : c.loop-u.u + 1 ≤ length c.loop-u.bests = omega (arith, c.loop-u.invariant.4, c.requires.bests_len, c.loop-u-test.true) in
    let at : c.loop-u.u ≡ c.loop-u.u + 1 - 1 = omega arith in
    let new : set c.loop-u.bests c.loop-u.u c.from.result ≡ set c.loop-u.bests (c.loop-u.u + 1 - 1) (label net.nodes (column net (c.loop-u.u + 1)) c.args.goal c.args.start) = ap₂ (λ (j y : ℕ). set c.loop-u.bests j y) at own in (
      omega (arith, c.loop-u-test.true),
      c.load_left.auto.star ∙ c.loop-u.invariant.1,
      c.load_left.auto.weights ∙ c.loop-u.invariant.2,
      c.load_left.auto.overall ∙ c.loop-u.invariant.3,
      length-set {A = ℕ} c.loop-u.bests c.loop-u.u c.from.result ∙ c.loop-u.invariant.4,
      filled_more (λ v. label net.nodes (column net v) c.args.goal c.args.start) c.loop-u.bests (omega arith) room new c.loop-u.invariant.5,
    )

pub returns : goal.returns
returns c =
    let are = rest_columns c.args.network.now.accepted c.args.closed.now in
    let done : c.loop-u.u ≡ length (rest c.args.closed.now c.args.network.now.image.now).columns = omega (arith, are, c.loop-u.invariant.0, c.loop-u-test.false) in
    own_bests (rest c.args.closed.now c.args.network.now.image.now) c.args.start c.args.goal (c.loop-u.invariant.4 ∙ c.requires.bests_len ∙ are) (λ j h. c.loop-u.invariant.5 j (omega (arith, done)))

pub loop-u-init : goal.loop-u-init
loop-u-init c = (omega arith, refl, refl, refl, refl, λ j h. absurd (omega arith))

pub load_left-requires : goal.load_left-requires
load_left-requires c =
    record { column = record { from = omega arith; upto = omega (arith, c.loop-u-test.true, c.args.network.now.accepted.columns_are) }; goal = c.requires.ends.goal_in; room = record { star_long = c.loop-u.invariant.1 ∙ (local_room c.args.network.now.accepted).star_long; weights_long = c.loop-u.invariant.2 ∙ (local_room c.args.network.now.accepted).weights_long; labels_long = c.loop-u.invariant.3 ∙ (local_room c.args.network.now.accepted).labels_long } }

pub narrow-requires : goal.narrow-requires
narrow-requires c =
    let start_in : (c.args.start < length c.load_left.new.overall) × (length c.load_left.new.overall ≤ 201) = let long = c.load_left.auto.overall ∙ c.loop-u.invariant.3 ∙ (local_room c.args.network.now.accepted).labels_long in (omega (arith, long, c.requires.ends.start_in.upto, c.args.network.now.accepted.nodes_are), omega (arith, long, few_nodes c.args.network.now.accepted)) in
    let inside : c.loop-u.u + 1 ≤ length (rest c.args.closed.now c.args.network.now.image.now).columns = omega (arith, c.loop-u-test.true, rest_columns c.args.network.now.accepted c.args.closed.now) in
    own_narrow (rest_admitted c.args.network.now.accepted c.args.closed.now) c.load_left.ensures.1 (omega arith) inside start_in.0

pub slice_bounds-star_room-end : goal.slice_bounds-star_room-end
slice_bounds-star_room-end c = star_fits c.args.network.now.accepted

pub slice_bounds-weight_room-end : goal.slice_bounds-weight_room-end
slice_bounds-weight_room-end c = few_arcs c.args.network.now.accepted

pub slice_bounds-label_room-end : goal.slice_bounds-label_room-end
slice_bounds-label_room-end c = places_fit c.args.network.now.accepted

pub slice_bounds-star-end : goal.slice_bounds-star-end
slice_bounds-star-end c = sym (local_room c.args.network.now.accepted).star_long

pub slice_bounds-weights-end : goal.slice_bounds-weights-end
slice_bounds-weights-end c = sym (local_room c.args.network.now.accepted).weights_long

pub slice_bounds-labels-end : goal.slice_bounds-labels-end
slice_bounds-labels-end c = sym (local_room c.args.network.now.accepted).labels_long

pub bounds-labels-start : goal.bounds-labels-start
bounds-labels-start c =
    let long = c.load_left.auto.overall ∙ c.loop-u.invariant.3 ∙ (local_room c.args.network.now.accepted).labels_long in
    omega (arith, long, c.requires.ends.start_in.upto, c.args.network.now.accepted.nodes_are)
