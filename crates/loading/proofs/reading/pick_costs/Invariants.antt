-- `reading::pick_costs`: the first i costs are read. Assumes nothing.
use Prim.Native.Nat.{◌≤◌}
use mathlib.Core.Path.{◌≡◌}
use mathlib.Core.List.{◌++◌}
use lib.ListN.{length, take, drop}
use Rattle.image.specs.Bytes.{decode}
use Rattle.loading.specs.Selected.{at_places}
use Rattle.loading.proofs.reading.pick_costs.Given as goal

abbrev pub invariant-loop-i : goal.invariant-loop-i
invariant-loop-i l = (l.i ≤ length l.kept) × (length l.weights ≡ length l.initial.weights) × (l.weights ≡ take l.i (at_places l.kept (decode 4 l.m l.column)) ++ drop l.i l.initial.weights)
