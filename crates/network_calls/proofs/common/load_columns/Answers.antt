-- `common::load_columns`: what is read are the columns of the arcs that are open in every column. Assumes nothing.
use Prim.Native.Nat.{ℕ, ◌*◌, ◌≤◌}
use native.Mathlib.Omega.{arith}
use native.Mathlib.Nat.{mul-le-mul_right}
use mathlib.Core.Path.{sym, ◌∙◌, subst₂}
use mathlib.Core.List.{List}
use lib.ListN.{length}
use lib.Seq.{length-take-le}
use Rattle.std.proofs.lemmas.List.{take-append-le}
use Rattle.image.specs.Layout.{net_of}
use Rattle.closures.specs.Map.{without}
use Rattle.loading.specs.Loaded.{star_size, Shared}
use Rattle.network_calls.proofs.SharedLaws.{rest_admitted, rest_columns, rest_nodes, held_network, held_columns}
use Rattle.network_calls.proofs.common.load_columns.Goals as goal

pub invariant_of-result : goal.invariant_of-result
invariant_of-result c =
    let a = c.args.network.now.accepted in
    let words = c.args.closed.now in
    let sizes = c.args.network.now.sizes in
    let arcs = c.load_common_left-arcs.result in
    let star = c.load_common_left-arcs.new.star in
    let costs = c.load_common_left-arcs.new.costs in
    let star_fits : star_size sizes.n arcs ≤ length star = omega (arith, c.load_common_left-arcs.auto.star, length-take-le (star_size sizes.n sizes.m) c.args.star.now c.requires.star_room, c.load_common_left-arcs.ensures.0) in
    let costs_fit : arcs * sizes.k ≤ length costs = omega (arith, c.load_common_left-arcs.auto.costs, length-take-le (sizes.m * sizes.k) c.args.costs.now c.requires.costs_room, mul-le-mul_right {m = arcs} {n = sizes.m} sizes.k c.load_common_left-arcs.ensures.0) in
    let shared = subst₂ (λ (x y : List ℕ). Shared (without words (net_of c.args.network.now.image.now)) arcs x y) (sym (take-append-le (star_size sizes.n arcs) star _ star_fits)) (sym (take-append-le (arcs * sizes.k) costs _ costs_fit)) c.load_common_left-arcs.ensures.1 in
    record { held = held_columns (rest_admitted a words) (a.nodes_are ∙ rest_nodes a words) (rest_columns a words) shared }

pub returns : goal.returns
returns c =
    let a = c.args.network.now.accepted in
    let words = c.args.closed.now in
    let sizes = c.args.network.now.sizes in
    let arcs = c.load_common_left-arcs.result in
    let star = c.load_common_left-arcs.new.star in
    let costs = c.load_common_left-arcs.new.costs in
    let star_fits : star_size sizes.n arcs ≤ length star = omega (arith, c.load_common_left-arcs.auto.star, length-take-le (star_size sizes.n sizes.m) c.args.star.now c.requires.star_room, c.load_common_left-arcs.ensures.0) in
    let costs_fit : arcs * sizes.k ≤ length costs = omega (arith, c.load_common_left-arcs.auto.costs, length-take-le (sizes.m * sizes.k) c.args.costs.now c.requires.costs_room, mul-le-mul_right {m = arcs} {n = sizes.m} sizes.k c.load_common_left-arcs.ensures.0) in
    let shared = subst₂ (λ (x y : List ℕ). Shared (without words (net_of c.args.network.now.image.now)) arcs x y) (sym (take-append-le (star_size sizes.n arcs) star _ star_fits)) (sym (take-append-le (arcs * sizes.k) costs _ costs_fit)) c.load_common_left-arcs.ensures.1 in
    held_network (rest_admitted a words) (a.nodes_are ∙ rest_nodes a words) (rest_columns a words) shared
