-- `pricing::price`: where every arc that the map leaves is open in every column, one star serves all columns; else each column has its own.
-- Assumes nothing.
use native.Mathlib.Omega.{arith}
use mathlib.Core.Path.{sym, ◌∙◌}
use Rattle.loading.proofs.DecodeLaws.{few_arcs}
use Rattle.network_calls.proofs.SharedLaws.{rest_admitted, rest_columns, rest_arcs, image_ends, count_same, joined, held, bests_all}
use Rattle.network_calls.proofs.pricing.price.Goals as goal

pub returns-then-columns-arcs : goal.returns-then-columns-arcs
returns-then-columns-arcs c =
    let a = c.args.network.now.accepted in
    let ok = rest_admitted a c.args.closed.now in
    held ok c.args.columns.now c.requires.common c.requires.reached.ends (c.column_bests.auto.bests ∙ c.requires.bests_long ∙ rest_columns a c.args.closed.now)
    (c.column_bests.ensures ∙ bests_all ok c.args.columns.now c.requires.common c.args.start c.args.goal (c.if-columns-arcs.true ∙ sym (rest_arcs a c.args.closed.now c.closed_roads-gone.ensures.0)))

pub returns-else-columns-arcs : goal.returns-else-columns-arcs
returns-else-columns-arcs c =
    let a = c.args.network.now.accepted in
    held (rest_admitted a c.args.closed.now) c.args.columns.now c.requires.common c.requires.reached.ends (c.own_bests.auto.bests ∙ c.requires.bests_long ∙ rest_columns a c.args.closed.now) c.own_bests.ensures

pub closed_roads-gone-requires : goal.closed_roads-gone-requires
closed_roads-gone-requires c = omega (arith, few_arcs c.args.network.now.accepted)

pub column_bests-requires : goal.column_bests-requires
column_bests-requires c =
    let a = c.args.network.now.accepted in
    let ok = rest_admitted a c.args.closed.now in
    record { joined = joined ok c.args.columns.now c.requires.common c.requires.reached; bests_long = c.requires.bests_long ∙ rest_columns a c.args.closed.now ∙ sym (count_same ok c.args.columns.now c.requires.common); labelled = c.requires.labelled }

pub own_bests-requires : goal.own_bests-requires
own_bests-requires c =
    record { ends = image_ends c.args.network.now.accepted c.args.closed.now c.requires.reached.ends; bests_len = c.requires.bests_long }
