-- `reading::read_columns` reads column by column. The loop: the costs of the first u columns are read. Assumes nothing.
use Prim.Native.Nat.{◌*◌, ◌≤◌}
use mathlib.Core.Path.{◌≡◌}
use mathlib.Core.List.{◌++◌}
use lib.ListN.{length, take, drop}
use Rattle.image.specs.Layout.{net_of}
use Rattle.loading.specs.Selected.{selected, in_a_row}
use Rattle.loading.proofs.reading.read_columns.Given as goal

abbrev pub invariant-loop-u : goal.invariant-loop-u
invariant-loop-u l = (l.u ≤ l.k) × (length l.costs ≡ length l.initial.costs) × (l.costs ≡ take (l.u * length l.kept) (in_a_row (selected l.kept (net_of l.network.image.now)).columns) ++ drop (l.u * length l.kept) l.initial.costs)
