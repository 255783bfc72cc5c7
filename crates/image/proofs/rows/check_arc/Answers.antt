-- `image::rows::check_arc` meets its contract. Assumes nothing.
use Rattle.std.proofs.Common.{arith}
use Rattle.std.proofs.lemmas.Grind.{common_steps}
use Rattle.image.specs.Outcome.{row, ◌then◌}
use Rattle.image.specs.Rows.{arc_fault}
use Rattle.image.proofs.rows.check_arc.Goals as goal

pub returns-then-not-joins_nodes : goal.returns-then-not-joins_nodes
unfolding arc_fault row ◌then◌
returns-then-not-joins_nodes c = grind (arith, common_steps)

pub returns-then-arc : goal.returns-then-arc
unfolding arc_fault row ◌then◌
returns-then-arc c = grind (arith, common_steps)

pub returns-then-not-is_after : goal.returns-then-not-is_after
unfolding arc_fault row ◌then◌
returns-then-not-is_after c = grind (arith, common_steps)

pub returns : goal.returns
unfolding arc_fault row ◌then◌
returns c = grind (arith, common_steps)
