-- `first::steps` goes from node to node along exact labels. The loop: the branch of the nodes so far has a path, and its first path is that of the branch at
-- the start; so there always is an exit. The room behind the path falls. Assumes nothing.
use mathlib.Core.Path.{◌≡◌}
use mathlib.Core.List.{[]}
use Prim.Native.Nat.{ℕ, ◌-◌}
use lib.ListN.{length, take}
use Rattle.terms.specs.Paths.{Route}
use Rattle.star.specs.Graphs.{arcs_of}
use Rattle.branching.specs.Branches.{branch, In}
use Rattle.branching.proofs.FirstLaws.{Stepping, Onward}
use Rattle.branching.proofs.first.steps.Given as goal

abbrev pub invariant-loop-x : goal.invariant-loop-x
invariant-loop-x l = Stepping (length l.initial.used) l.initial.path l.at l.goal l.used l.path l.len l.x × (length l.labels ≡ length l.initial.used)
    × ((s : ℕ) (p : Route) → In (arcs_of l.graph) s l.goal (branch (take l.at l.initial.path) []) p → Onward (arcs_of l.graph) s l.goal (take l.at l.initial.path) (take l.len l.path))

abbrev pub decreases-loop-x : goal.decreases-loop-x
decreases-loop-x l = length l.path - l.len
