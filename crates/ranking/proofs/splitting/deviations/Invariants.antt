-- `splitting::deviations`. The loop: the parts that leave the path after d nodes or more have been looked into. Assumes nothing.
use Rattle.star.specs.Graphs.{arcs_of}
use Rattle.ranking.proofs.BackLaws.{Going}
use Rattle.ranking.proofs.splitting.deviations.Given as goal

abbrev pub invariant-loop-d : goal.invariant-loop-d
invariant-loop-d l = Going l.query.graph.nodes l.query.slots (arcs_of l.query.graph) l.query.start l.query.goal l.limit l.fn.stem.rank l.initial.work l.count l.initial.barred l.initial.path l.fn.stem.len l.fn.stem.cost l.work l.now l.used l.barred l.path l.d l.behind
