-- `bests::least_cost` lends parts of local arrays, and reads the start's label. Assumes nothing.
use Prim.Native.Nat.{◌+◌, ◌≤◌}
use native.Mathlib.Omega.{arith}
use mathlib.Core.Path.{sym, ◌∙◌}
use lib.ListN.{get_or-append}
use Rattle.terms.proofs.RoomLaws.{part_long}
use Rattle.star.proofs.Stores.{flags_long, flags_clear}
use Rattle.star.proofs.NetworkLaws.{graph_few}
use Rattle.labels.proofs.LabelLaws.{unbarred}
use Rattle.measuring.proofs.BestLaws.{start_best}
use Rattle.measuring.proofs.bests.least_cost.Goals as goal

pub returns : goal.returns
returns c =
    let g = c.args.graph.now in
    let nodes_fit : g.nodes + 1 ≤ 201 = omega (arith, graph_few g) in
    let long = c.least.auto.labels ∙ part_long 201 _ nodes_fit in
    λ p r. get_or-append c.least.new.labels _ 0 c.args.start (omega (arith, long, c.requires.start.1)) ∙ start_best g.holds c.requires.start.0 c.requires.start.1 long (unbarred (flags_clear 201 (g.nodes + 1)) c.least.ensures) r

pub least-requires : goal.least-requires
least-requires c =
    let g = c.args.graph.now in
    let nodes_fit : g.nodes + 1 ≤ 201 = omega (arith, graph_few g) in
    let long = part_long 201 _ nodes_fit in
    record { labels_long = long; barred_long = flags_long 201 _ nodes_fit ∙ sym long; goal = record { place = omega (arith, long, c.requires.goal); free = flags_clear 201 (g.nodes + 1) c.args.goal } }
