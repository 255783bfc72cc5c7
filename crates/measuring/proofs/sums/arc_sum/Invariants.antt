-- `sums::arc_sum`. The loop: the sum of the arcs that were taken and that of those that are left make up the whole. Assumes nothing.
use Prim.Native.Nat.{◌+◌, ◌<◌}
use mathlib.Core.Path.{◌≡◌}
use mathlib.Core.List.{List}
use Prim.Native.Nat.{ℕ}
use lib.ListN.{length}
use Rattle.std.specs.Prelude.{All}
use Rattle.std.specs.Slice.Iter.{iter_rest}
use Rattle.std.specs.Iterator.Adapters.{rev_source}
use Rattle.measuring.specs.Steps.{sum_of}
use Rattle.measuring.proofs.sums.arc_sum.Given as goal

abbrev pub invariant-loop-arc : goal.invariant-loop-arc
invariant-loop-arc l =
    let left : List ℕ = iter_rest (rev_source l.arc-iterator) in
    All (λ a. a < length l.weights) left × (l.sum + sum_of l.weights left ≡ sum_of l.weights l.arcs)
