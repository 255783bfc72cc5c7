-- `tables::take_bests`: the bests of the first u columns are taken. Assumes nothing.
use Prim.Native.Nat.{ℕ, ◌<◌}
use mathlib.Core.Path.{◌≡◌}
use lib.ListN.{get_or}
use Rattle.descent.specs.Rows.{at_row}
use Rattle.search_calls.proofs.tables.take_bests.Given as goal

abbrev pub invariant-loop-u : goal.invariant-loop-u
invariant-loop-u l = (w : ℕ) → w < l.u → get_or l.bests w 0 ≡ at_row l.places l.labels w l.start
