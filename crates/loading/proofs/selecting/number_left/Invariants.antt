-- `selecting::number_left`: of the first i indices those that the map leaves stand at the front. Assumes nothing.
use Prim.Native.Nat.{◌≤◌}
use mathlib.Core.Path.{◌≡◌}
use lib.ListN.{length, take}
use Rattle.terms.specs.Lists.{keep, numbers}
use Rattle.closures.specs.Map.{left}
use Rattle.loading.proofs.selecting.number_left.Given as goal

abbrev pub invariant-loop-i : goal.invariant-loop-i
invariant-loop-i l = (l.i ≤ length l.initial.kept) × (l.front ≤ l.i) × (length l.kept ≡ length l.initial.kept) × (take l.front l.kept ≡ keep (left l.closed) (take l.i (numbers 0 (length l.initial.kept))))
