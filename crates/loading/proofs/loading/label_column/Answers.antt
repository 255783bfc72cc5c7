-- `loading::label_column`: the star and the weights are read, and labelled with no node barred. Assumes nothing.
use Prim.Native.Nat.{ℕ, ◌+◌}
use native.Mathlib.Omega.{arith}
use mathlib.Core.Path.{sym, ◌∙◌, ap, subst}
use Rattle.terms.specs.Network.{cost_column}
use Rattle.image.specs.Layout.{net_of}
use Rattle.star.specs.Layout.{Holds}
use Rattle.loading.specs.Loaded.{Shape, Loaded}
use Rattle.loading.proofs.SelectLaws.{selected_restrict, selected_costs}
use Rattle.loading.proofs.LoadLaws.{graph_holds, loaded}
use Rattle.loading.proofs.DecodeLaws.{admitted}
use Rattle.loading.proofs.loading.label_column.Goals as goal

pub invariant_of-graph : goal.invariant_of-graph
invariant_of-graph c =
    let some = selected_restrict (admitted c.args.network.now.accepted) c.requires.open_indices.test c.args.network.now.accepted.arcs_are c.requires.open_indices.are in
    let shape = subst (λ net. Shape net c.fill_star.new.star) some c.fill_star.ensures in
    let weights = c.read_column.ensures ∙ sym (selected_costs c.args.kept.now (net_of c.args.network.now.image.now) c.args.u c.requires.column.from c.requires.column.upto) ∙ ap (λ net. cost_column net c.args.u) some in
    record { holds = subst (λ n. Holds n c.fill_star.new.star c.read_column.new.weights) (sym c.args.network.now.accepted.nodes_are) (graph_holds (admitted c.args.network.now.accepted) c.requires.column.from c.requires.column.upto c.requires.open_indices.test c.requires.open_indices.opened shape weights) }

pub label_nodes-requires : goal.label_nodes-requires
label_nodes-requires c = record { goal = omega (arith, c.requires.goal.upto, c.args.network.now.accepted.nodes_are); overall_long = c.requires.room.labels_long }

pub returns : goal.returns
returns c =
    let some = selected_restrict (admitted c.args.network.now.accepted) c.requires.open_indices.test c.args.network.now.accepted.arcs_are c.requires.open_indices.are in
    let shape = subst (λ net. Shape net c.fill_star.new.star) some c.fill_star.ensures in
    let weights = c.read_column.ensures ∙ sym (selected_costs c.args.kept.now (net_of c.args.network.now.image.now) c.args.u c.requires.column.from c.requires.column.upto) ∙ ap (λ net. cost_column net c.args.u) some in
    subst (λ net. Loaded net c.args.u c.args.goal c.fill_star.new.star c.read_column.new.weights c.label_nodes.new.overall) (sym some)
    (loaded (admitted c.args.network.now.accepted) c.requires.column.from c.requires.column.upto c.requires.open_indices.test c.requires.open_indices.opened shape weights c.label_nodes.ensures (c.label_nodes.auto.overall ∙ c.requires.room.labels_long ∙ ap (λ (x : ℕ). x + 1) c.args.network.now.accepted.nodes_are))
