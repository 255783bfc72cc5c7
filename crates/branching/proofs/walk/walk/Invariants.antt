-- `walk::walk` lengthens the path by tight steps. The loop: the path is laid out and flagged, and the walk so far goes on as a tight walk; the room behind
-- the path falls. Assumes nothing.
use mathlib.Core.Path.{◌≡◌}
use Prim.Native.Nat.{◌-◌, ◌≤◌, ◌<◌}
use lib.ListN.{length, take, get_or}
use Rattle.star.specs.Graphs.{arcs_of}
use Rattle.labels.specs.Labels.{far}
use Rattle.branching.specs.Laid.{Laid}
use Rattle.branching.proofs.LaidLaws.{Walking}
use Rattle.branching.proofs.walk.walk.Given as goal

abbrev pub invariant-loop-x : goal.invariant-loop-x
invariant-loop-x l = (l.at ≤ l.len) × (length l.path ≡ length l.initial.path) × (take l.at l.path ≡ take l.at l.initial.path) × Laid (length l.labels) l.used l.path l.len × (l.x < length l.labels)
    × (get_or l.labels (get_or l.initial.path (l.at - 1) 0) 0 < far
    → Walking (arcs_of l.graph) l.goal l.labels (take l.at l.initial.path) (get_or l.initial.path (l.at - 1) 0) (take l.len l.path) l.x × (get_or l.labels l.x 0 < far))

abbrev pub decreases-loop-x : goal.decreases-loop-x
decreases-loop-x l = length l.path - l.len
