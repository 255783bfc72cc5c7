-- `sheet::lines::write_nodes` meets its contract. The invariant: the nodes before the next are written. Assumes nothing.
use lib.ListN.{take}
use Rattle.sheet.specs.Text.{Grown}
use Rattle.sheet.specs.Sheet.{nodes_text}
use Rattle.sheet.proofs.lines.write_nodes.Given as goal

abbrev pub invariant-loop-node : goal.invariant-loop-node
invariant-loop-node l = Grown l.initial.page.items (nodes_text (take l.node-index l.path)) l.page.items
