-- `selecting::number_arcs`: the first i places hold their own numbers. Assumes nothing.
use Prim.Native.Nat.{◌≤◌}
use mathlib.Core.Path.{◌≡◌}
use mathlib.Core.List.{◌++◌}
use lib.ListN.{length, take, drop}
use Rattle.terms.specs.Lists.{numbers}
use Rattle.loading.proofs.selecting.number_arcs.Given as goal

abbrev pub invariant-loop-i : goal.invariant-loop-i
invariant-loop-i l = (l.i ≤ length l.initial.kept) × (length l.kept ≡ length l.initial.kept) × (l.kept ≡ take l.i (numbers 0 (length l.initial.kept)) ++ drop l.i l.initial.kept)
