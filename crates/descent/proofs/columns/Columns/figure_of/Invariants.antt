-- `columns::Columns::figure_of`: the largest of the columns before. Assumes nothing.
use Prim.Native.Nat.{ℕ, ◌+◌, ◌-◌}
use mathlib.Core.List.{List}
use lib.ListN.{length, get_or}
use Rattle.terms.proofs.LargestLaws.{SoFar}
use Rattle.descent.proofs.columns.Columns.figure_of.Given as goal

-- the largest of the values below u, from 1 on
abbrev Largest : List ℕ → List ℕ → ℕ → ℕ → Type 0
Largest bests sums u figure = (place : ℕ) × SoFar (λ u. get_or sums (u - 1) 0 - get_or bests (u - 1) 0) u figure place

abbrev pub invariant-loop-sum : goal.invariant-loop-sum
invariant-loop-sum l = Largest l.self.bests.now l.sums (length l.yielded + 1) l.figure
