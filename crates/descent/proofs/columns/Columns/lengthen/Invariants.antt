-- `columns::Columns::lengthen`: the sums of the columns before u are lengthened. Assumes nothing.
use Prim.Native.Nat.{ℕ, ◌+◌, ◌≤◌, ◌<◌}
use mathlib.Core.Path.{◌≡◌}
use lib.ListN.{length, get_or}
use Rattle.descent.specs.Rows.{at_row}
use Rattle.descent.proofs.columns.Columns.lengthen.Given as goal

abbrev pub invariant-loop-u : goal.invariant-loop-u
invariant-loop-u l = record {
  long : length l.longer ≡ 8;
  done : (w : ℕ) → w < l.u → get_or l.longer w 0 ≡ get_or l.sums w 0 + at_row l.self.arcs l.self.costs.now w l.i;
  left : (w : ℕ) → l.u ≤ w → get_or l.longer w 0 ≡ get_or l.sums w 0;
  low : (w : ℕ) → get_or l.longer w 0 ≤ get_or l.sums w 0 + 4294967296;
}
