-- `raise::mend_all` mends label after label, from the last to the first. The loop: the nodes that are left are a beginning, and still to be mended.
-- Assumes nothing.
use Prim.Native.Nat.{ℕ}
use mathlib.Core.Path.{◌≡◌}
use mathlib.Core.List.{List}
use lib.ListN.{length, get_or}
use Rattle.std.specs.Slice.Iter.{iter_rest}
use Rattle.std.specs.Iterator.Adapters.{rev_source}
use Rattle.star.specs.Graphs.{arcs_of}
use Rattle.exits.specs.Small.{Small}
use Rattle.sharpening.specs.Sharp.{Lifted}
use Rattle.sharpening.proofs.SharpLaws.{Begins, Mending}
use Rattle.sharpening.proofs.raise.mend_all.Given as goal

abbrev pub invariant-loop-node : goal.invariant-loop-node
invariant-loop-node l =
    let left : List ℕ = iter_rest (rev_source l.node-iterator) in
    Small (length l.used) l.labels
    × Begins left l.front.taken
    × ((os : List ℕ) → get_or os l.goal 0 ≡ 0 → Lifted l.goal l.front.taken (length l.front.taken) os l.initial.labels → Mending (arcs_of l.graph) l.goal l.used l.front.taken (length left) os l.labels)
