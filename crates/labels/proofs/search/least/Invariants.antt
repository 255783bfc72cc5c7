-- `search::least` ends with no dirty node, and then the labels are exact. The loop: the labels are right but for the arcs into dirty nodes; with each
-- node taken twice the sum of the labels and the number of dirty nodes fall. Assumes nothing.
use mathlib.Core.Path.{◌≡◌}
use lib.ListN.{length}
use Rattle.labels.specs.Search.{input_of, State, left}
use Rattle.labels.proofs.search.least.Given as goal

abbrev pub invariant-loop-h : goal.invariant-loop-h
invariant-loop-h l = (length l.queue ≡ length l.labels) × State (input_of l.graph l.barred) l.goal l.labels l.queue 0 0

abbrev pub decreases-loop-h : goal.decreases-loop-h
decreases-loop-h l = left l.labels l.queue
