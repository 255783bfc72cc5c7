-- `arcs::path_arcs`: the loop has found the arcs of the steps before. Assumes nothing.
use Prim.Native.Nat.{◌+◌}
use mathlib.Core.Path.{◌≡◌}
use lib.ListN.{drop}
use Rattle.std.specs.Slice.Iter.{windows_rest, windows_size}
use Rattle.star.specs.Graphs.{tails, heads}
use Rattle.measuring.specs.Steps.{Steps}
use Rattle.measuring.proofs.arcs.path_arcs.Given as goal

abbrev pub invariant-loop-i : goal.invariant-loop-i
invariant-loop-i l = record {
  pairs : windows_size l.i-iterator.iter ≡ 2;
  left : windows_rest l.i-iterator.iter ≡ drop l.i-iterator.count l.path;
  found : Steps (tails l.graph) (heads l.graph) l.path l.arcs (l.i-iterator.count + 1);
}
