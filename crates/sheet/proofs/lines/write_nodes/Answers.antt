-- `sheet::lines::write_nodes` meets its contract. The invariant: the nodes before the next are written. Assumes nothing.
use Prim.Native.Nat.{ℕ}
use native.Mathlib.Omega.{arith}
use mathlib.Core.Path.{sym, ◌∙◌, ap}
use mathlib.Core.List.{◌++◌}
use lib.ListN.{take}
use Rattle.sheet.specs.Sheet.{node_text, nodes_text}
use Rattle.sheet.proofs.TextLaws.{grown_nothing, grown_both, grown_as}
use Rattle.sheet.proofs.LineLaws.{nodes_none, nodes_more, nodes_all}
use Rattle.sheet.proofs.lines.write_nodes.Goals as goal

pub loop-node-init : goal.loop-node-init
loop-node-init c = grown_as (sym nodes_none) (grown_nothing c.args.page.now.items)

pub loop-node-preserved : goal.loop-node-preserved
loop-node-preserved c = grown_as (ap (λ (v : ℕ). nodes_text (take c.loop-node.node-index c.args.path.now) ++ node_text v) c.from.ensures ∙ nodes_more c.args.path.now c.loop-node.node-index (omega arith)) (grown_both c.loop-node.invariant c.write_node.ensures)

pub returns : goal.returns
returns c = grown_as (nodes_all c.args.path.now c.loop-node.node-index (omega arith)) c.loop-node.invariant
