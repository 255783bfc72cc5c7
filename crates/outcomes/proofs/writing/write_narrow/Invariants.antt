-- `writing::write_narrow`: the labels of the nodes before i are written. Assumes nothing.
use Prim.Native.Nat.{◌-◌, ◌≤◌}
use mathlib.Core.Path.{◌≡◌}
use mathlib.Core.List.{◌++◌, map}
use lib.ListN.{length, take, drop}
use Rattle.outcomes.specs.Labels.{narrowed}
use Rattle.outcomes.proofs.writing.write_narrow.Given as goal

abbrev pub invariant-loop-i : goal.invariant-loop-i
invariant-loop-i l = record {
  inside : l.i - 1 ≤ length l.exact - 1;
  written : l.labels ≡ take (l.i - 1) (map narrowed (drop 1 l.exact)) ++ drop (l.i - 1) l.initial.labels;
}
