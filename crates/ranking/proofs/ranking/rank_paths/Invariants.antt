-- `ranking::rank_paths`. The loop: j paths are ranked, and no branch is waiting, or no more paths are wanted. Assumes nothing.
use Prim.Native.Nat.{◌+◌, ◌-◌, ◌*◌}
use mathlib.Core.Path.{◌≡◌}
use lib.ListN.{length, drop}
use Rattle.star.specs.Graphs.{arcs_of}
use Rattle.candidates.specs.Slots.{entries}
use Rattle.ranking.specs.Ranking.{Filled, Stage}
use Rattle.ranking.proofs.ranking.rank_paths.Given as goal

abbrev pub invariant-loop-j : goal.invariant-loop-j
invariant-loop-j l = Filled l.query.graph.nodes l.query.slots (arcs_of l.query.graph) l.query.start l.j l.work l.count × Stage l.query.graph.nodes (arcs_of l.query.graph) l.query.start l.query.goal l.query.slots (entries l.query.graph.nodes l.work l.count) l.j
    × (drop (l.query.slots * (l.query.graph.nodes + 16)) l.work ≡ drop (l.query.slots * (l.query.graph.nodes + 16)) l.initial.work) × (length l.work ≡ length l.initial.work)

abbrev pub decreases-loop-j : goal.decreases-loop-j
decreases-loop-j l = l.query.slots - l.j
