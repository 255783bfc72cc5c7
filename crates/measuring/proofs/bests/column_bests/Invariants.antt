-- `bests::column_bests`: the loop has set the bests of the first i columns. Assumes nothing.
use Prim.Native.Nat.{ℕ, ◌+◌, ◌<◌}
use mathlib.Core.Path.{◌≡◌}
use lib.ListN.{get_or}
use Rattle.terms.specs.Network.{column}
use Rattle.terms.specs.Regret.{best}
use Rattle.measuring.specs.Networks.{network_of}
use Rattle.measuring.proofs.bests.column_bests.Given as goal

abbrev pub invariant-loop-i : goal.invariant-loop-i
invariant-loop-i l = (j : ℕ) → j < l.i → get_or l.bests j 0 ≡ best l.columns.nodes (column (network_of l.columns) (1 + j)) l.start l.goal
