-- `selecting::drop_marked`: of the first i indices those that are kept stand at the front, and behind i nothing has changed. Assumes nothing.
use Prim.Native.Nat.{ℕ, ◌≤◌}
use mathlib.Core.Path.{◌≡◌}
use lib.ListN.{length, get_or, take}
use Rattle.terms.specs.Lists.{keep}
use Rattle.image.specs.Bytes.{decode}
use Rattle.loading.specs.Selected.{unmarked_at}
use Rattle.loading.proofs.selecting.drop_marked.Given as goal

abbrev pub invariant-loop-i : goal.invariant-loop-i
invariant-loop-i l = (l.i ≤ length l.initial.kept) × (l.front ≤ l.i) × (length l.kept ≡ length l.initial.kept) × (take l.front l.kept ≡ keep (unmarked_at (decode 4 l.m l.costs)) (take l.i l.initial.kept)) × ((j : ℕ) → l.i ≤ j → get_or l.kept j 0 ≡ get_or l.initial.kept j 0)
