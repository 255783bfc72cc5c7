-- A slice whose beginning is written place by place. Assumes nothing.
-- the first i places of d hold those of s, and now place i does too
use Prim.Native.Nat.{ℕ, suc, ◌+◌, ◌-◌, ◌<◌}
use native.Mathlib.Omega.{arith}
use native.Mathlib.Numerals.{add-one}
use mathlib.Core.Path.{◌≡◌}
use mathlib.Core.List.{List, ◌++◌}
use lib.ListN.{length, get_or, take, drop, set, length-drop}
use lib.Seq.{drop-cons, take-suc, set_at, append_snoc, length-take-le, take_all}

pub copy_more : (s d : List ℕ) (i : ℕ) → i < length s → i < length d → set (take i s ++ drop i d) i (get_or s i 0) ≡ take (i + 1) s ++ drop (i + 1) d
copy_more s d i h k =
    rw (add-one, drop-cons d i 0 k, take-suc s i 0 h, append_snoc, set_at (take i s) (get_or d i 0) (drop (suc i) d) (get_or s i 0) i (length-take-le i s (omega arith)))

-- the part from s to the end
pub to_end : (l : List ℕ) (s : ℕ) → take (length l - s) (drop s l) ≡ drop s l
to_end l s = take_all (length l - s) (drop s l) (omega (arith, length-drop s l))
