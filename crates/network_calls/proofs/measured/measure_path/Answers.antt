-- `measured::measure_path`: the columns have each column's best, so what is measured is the path's figure and worst column. Assumes nothing.
use native.Mathlib.Omega.{arith}
use mathlib.Core.Path.{◌≡◌, sym, subst}
use Rattle.terms.specs.Network.{common}
use Rattle.image.specs.Layout.{net_of}
use Rattle.closures.proofs.WithoutLaws.{without_none}
use Rattle.loading.proofs.DecodeLaws.{admitted}
use Rattle.measuring.specs.Networks.{network_of}
use Rattle.network_calls.specs.Held.{Reached, Held}
use Rattle.network_calls.proofs.SharedLaws.{measurable_open, measured_below}
use Rattle.network_calls.proofs.measured.measure_path.Goals as goal

pub price-requires : goal.price-requires
price-requires c =
    let H = subst (λ net. (network_of c.args.columns.now ≡ common net) × Reached net c.args.start c.args.goal) (sym (without_none (net_of c.args.network.now.image.now))) (c.requires.common, record { ends = c.requires.ends; route = c.args.nodes.now; path = c.requires.path }) in
    record { common = H.0; reached = H.1; bests_long = c.requires.bests_long; labelled = tt }

pub measure-found-requires : goal.measure-found-requires
measure-found-requires c =
    let held = subst (λ net. Held net c.args.columns.now c.args.start c.args.goal c.price.new.bests) (without_none (net_of c.args.network.now.image.now)) c.price.ensures in
    let m = measurable_open (admitted c.args.network.now.accepted) c.args.columns.now c.requires.common c.requires.ends held c.requires.path in
    record { bests_long = held.priced.bests_long; by_arcs = m.0; from_2_to_200_nodes = m.1.0; no_less = m.1.1 }

pub returns : goal.returns
returns c =
    let held = subst (λ net. Held net c.args.columns.now c.args.start c.args.goal c.price.new.bests) (without_none (net_of c.args.network.now.image.now)) c.price.ensures in
    (measured_below (admitted c.args.network.now.accepted) c.args.columns.now c.requires.common c.requires.ends held c.requires.path (omega arith) c.measure-found.ensures).0

pub overflow_cast-result : goal.overflow_cast-result
overflow_cast-result c =
    let held = subst (λ net. Held net c.args.columns.now c.args.start c.args.goal c.price.new.bests) (without_none (net_of c.args.network.now.image.now)) c.price.ensures in
    omega (arith, (measured_below (admitted c.args.network.now.accepted) c.args.columns.now c.requires.common c.requires.ends held c.requires.path (omega arith) c.measure-found.ensures).1)
