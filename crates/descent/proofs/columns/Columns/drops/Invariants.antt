-- `columns::Columns::drops`: no column before u drops the node. Assumes nothing.
use Prim.Native.Nat.{ℕ, ◌<◌}
use mathlib.Core.Path.{◌≡◌}
use mathlib.Core.Bool.{false}
use lib.ListN.{get_or}
use Rattle.descent.specs.Rows.{stops, at_row}
use Rattle.descent.proofs.columns.Columns.drops.Given as goal

abbrev pub invariant-loop-u : goal.invariant-loop-u
invariant-loop-u l = (w : ℕ) → w < l.u → stops (at_row l.self.arcs l.self.costs.now w l.i) (at_row l.self.places l.self.labels.now w l.h) (get_or l.self.bests.now w 0) (get_or l.sums w 0) l.figure ≡ false
