-- Words set to 0 piece by piece. Assumes nothing.
use Prim.Native.Nat.{ℕ, ◌+◌, ◌-◌, ◌≤◌, ◌<◌, min}
use native.Mathlib.Omega.{arith}
use mathlib.Core.Path.{◌≡◌, sym, ◌∙◌, ap, ap₂}
use mathlib.Core.Logic.{⊎_elim}
use mathlib.Core.List.{List, ◌++◌, append_assoc, append-nil}
use lib.ListN.{length, take, drop, replicate, length-replicate, drop_of_length-le}
use lib.Seq.{take_at, drop_at}
use borrow.Rule.Slice.PartMut.{put_mid, Post-is}
use Rattle.std.proofs.lemmas.List.{replicate-append-replicate}
use Rattle.terms.proofs.ListLaws.{le_or_lt}
use Rattle.candidates.proofs.PartLaws.{high_drop}

-- the words of l below a place are 0
abbrev pub cleared : ℕ → List ℕ → List ℕ
cleared from l = replicate (min from (length l)) 0 ++ drop from l

pub none_cleared : (l : List ℕ) → l ≡ cleared 0 l
none_cleared l = let z : 0 ≡ min 0 (length l) = omega arith in ap (λ (k : ℕ). replicate k 0 ++ l) z

-- and now those of a piece of 256 words, or of what is left
pub piece_cleared : (l now piece : List ℕ) (from to : ℕ) → from < length l → to ≡ from + min (length l - from) 256 → now ≡ cleared from l → piece ≡ replicate (to - from) 0
    → put_mid from (to - from) now piece ≡ cleared (from + 256) l
piece_cleared l now piece from to h z e p =
    ap₂ (λ (x y : List ℕ). x ++ y) first (ap₂ (λ (x y : List ℕ). x ++ y) p (Post-is from to now (omega arith) ∙ last))
    ∙ sym (append_assoc (replicate from 0) (replicate (to - from) 0) (drop (from + 256) l))
    ∙ ap (λ (x : List ℕ). x ++ drop (from + 256) l) (replicate-append-replicate from (to - from) 0 ∙ ap (λ (k : ℕ). replicate k 0) (omega arith))
  where
    begins : now ≡ replicate from 0 ++ drop from l
    begins = let y : min from (length l) ≡ from = omega arith in e ∙ ap (λ (k : ℕ). replicate k 0 ++ drop from l) y

    long : length {A = ℕ} (replicate from 0) ≡ from
    long = length-replicate from 0

    first : take from now ≡ replicate from 0
    first = ap (take from) begins ∙ take_at (replicate from 0) (drop from l) from long

    rest : drop to now ≡ drop to l
    rest = high_drop l now from (ap (drop from) begins ∙ drop_at (replicate from 0) (drop from l) from long) to (omega arith)

    last : drop to now ≡ drop (from + 256) l
    last =
        ⊎_elim
        (λ k. rest ∙ ap (λ (x : ℕ). drop x l) (omega arith))
        (λ k. rest ∙ drop_of_length-le l (omega arith) ∙ sym (drop_of_length-le l (omega arith)))
        (le_or_lt (from + 256) (length l))

-- all of them
pub all_cleared : (l : List ℕ) (from : ℕ) → length l ≤ from → cleared from l ≡ replicate (length l) 0
all_cleared l from h =
    let z : min from (length l) ≡ length l = omega arith in
    ap₂ (λ (x : ℕ) (y : List ℕ). replicate x 0 ++ y) z (drop_of_length-le l h) ∙ append-nil (replicate (length l) 0)
