-- Sums of lists of numbers, and of flags. Assumes nothing.
use Prim.Native.Nat.{ℕ, zero, suc, ◌+◌, ◌≤◌, ◌<◌}
use native.Mathlib.Omega.{arith}
use mathlib.Core.Path.{◌≡◌, refl}
use mathlib.Core.Bool.{Bool, true, false, cond}
use mathlib.Core.List.{List, [], ◌∷◌}
use lib.ListN.{length, get_or, set, replicate}
use Rattle.labels.specs.Queue.{sum, flagged}

pub sum_set : (l : List ℕ) (i a : ℕ) → i < length l → sum (set l i a) + get_or l i 0 ≡ sum l + a
unfolding sum
sum_set [] i a h = omega arith
sum_set (x ∷ l) zero a h = omega arith
sum_set (x ∷ l) (suc i) a h = let s = sum_set l i a (omega arith) in omega arith

-- of flags
pub flagged_set : (l : List Bool) (i : ℕ) (a : Bool) → i < length l → flagged (set l i a) + cond (get_or l i false) 1 0 ≡ flagged l + cond a 1 0
unfolding flagged
flagged_set [] i a h = omega arith
flagged_set (x ∷ l) zero a h = omega arith
flagged_set (x ∷ l) (suc i) a h = let s = flagged_set l i a (omega arith) in omega arith

pub flagged_le : (l : List Bool) → flagged l ≤ length l
unfolding flagged
flagged_le [] = omega arith
flagged_le (true ∷ l) = omega (arith, flagged_le l)
flagged_le (false ∷ l) = omega (arith, flagged_le l)

pub flagged_zero : (l : List Bool) → flagged l ≡ 0 → (v : ℕ) → get_or l v false ≡ false
unfolding flagged
flagged_zero [] e v = refl
flagged_zero (true ∷ l) e v = absurd (omega arith)
flagged_zero (false ∷ l) e zero = refl
flagged_zero (false ∷ l) e (suc v) = flagged_zero l (omega arith) v

pub flagged_none : (n : ℕ) → flagged (replicate n false) ≡ 0
unfolding flagged
flagged_none zero = refl
flagged_none (suc n) = omega (arith, flagged_none n)
