-- `writing::write_path`: the nodes before place i are written. Assumes nothing.
use Prim.Native.Nat.{◌≤◌}
use mathlib.Core.Path.{◌≡◌}
use mathlib.Core.List.{◌++◌}
use lib.ListN.{take, drop}
use Rattle.outcomes.proofs.writing.write_path.Given as goal

abbrev pub invariant-loop-i : goal.invariant-loop-i
invariant-loop-i l = record {
  inside : l.i ≤ l.count;
  written : l.path ≡ take l.i l.route ++ drop l.i l.initial.path;
}
