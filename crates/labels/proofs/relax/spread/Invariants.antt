-- `relax::spread` follows the chain of h, and the link falls. The loop: the arcs into h from the link on are done, and the label of h is kept.
-- Assumes nothing.
use mathlib.Core.Path.{◌≡◌}
use Prim.Native.Nat.{ℕ, ◌≤◌}
use lib.ListN.{length, get_or}
use Rattle.star.specs.Graphs.{tails}
use Rattle.labels.specs.Search.{input_of, State, left}
use Rattle.labels.proofs.SearchLaws.{Along}
use Rattle.labels.proofs.relax.spread.Given as goal

abbrev pub invariant-loop-link : goal.invariant-loop-link
invariant-loop-link l = (l.link ≤ length (tails l.graph)) × (length l.queue ≡ length l.labels)
    × (left l.labels l.queue ≤ left l.initial.labels l.initial.queue) × (get_or l.labels l.h 0 ≡ l.rest)
    × ((t : ℕ) → State (input_of l.graph l.barred) t l.initial.labels l.initial.queue l.h (length (tails l.graph)) → Along (input_of l.graph l.barred) t l.labels l.queue l.h l.link)

abbrev pub decreases-loop-link : goal.decreases-loop-link
decreases-loop-link l = l.link
