-- Laws about stores in a list, and lists that are filled. Assumes nothing.
use Prim.Native.Nat.{ℕ, zero, suc, ◌≤◌, ◌<◌}
use native.Mathlib.Omega.{arith}
use native.Mathlib.Nat.{le_refl}
use native.Mathlib.Decide.{ℕ_discrete}
use mathlib.Core.Path.{◌≡◌, refl, sym, ap, ◌∙◌}
use mathlib.Core.List.{List, ◌∷◌, ◌++◌, append-nil}
use mathlib.Core.Bool.{Bool, false}
use lib.ListN.{length, get_or, set, replicate, take, drop, length-replicate, drop_of_length-le}
use lib.Seq.{get_or-set_same, get_or-set_other, length-take-le}

-- what holds of the value stored at i, and of each other element, holds of each element after the store
each_set : {A : Type 0} (z : A) (P : ℕ → A → Type 0) (l : List A) (i : ℕ) (a : A) → i < length l → P i a → ((v : ℕ) → (v ≡ i → ⊥) → P v (get_or l v z)) → (v : ℕ) → P v (get_or (set l i a) v z)
each_set {A} z P l i a h new old v = by_case (ℕ_discrete v i)
  where
    by_case : Dec (v ≡ i) → P v (get_or (set l i a) v z)
    by_case (yes e) = rw (e, get_or-set_same l i a z h) new
    by_case (no e) = rw (get_or-set_other l i v a z e) (old v e)

-- of numbers, and of flags
pub set_each : (P : ℕ → ℕ → Type 0) (l : List ℕ) (i a : ℕ) → i < length l → P i a → ((v : ℕ) → (v ≡ i → ⊥) → P v (get_or l v 0)) → (v : ℕ) → P v (get_or (set l i a) v 0)
set_each = each_set 0

pub flag_each : (P : ℕ → Bool → Type 0) (l : List Bool) (i : ℕ) (a : Bool) → i < length l → P i a → ((v : ℕ) → (v ≡ i → ⊥) → P v (get_or l v false)) → (v : ℕ) → P v (get_or (set l i a) v false)
flag_each = each_set false

-- a store that lowers an element raises none
pub lower_le : (l : List ℕ) (i a : ℕ) → i < length l → a ≤ get_or l i 0 → (v : ℕ) → get_or (set l i a) v 0 ≤ get_or l v 0
lower_le l i a h k = set_each (λ v x. x ≤ get_or l v 0) l i a h k (λ v _. le_refl _)

-- elements that differ at the indices of P, but for that at i, which the stored one is not among
pub set_once : (P : ℕ → Type 0) (l : List ℕ) (i a : ℕ) → i < length l → ((k : ℕ) → P k → (k ≡ i → ⊥) → get_or l k 0 ≡ a → ⊥)
    → ((j k : ℕ) → P j → P k → (j ≡ i → ⊥) → (k ≡ i → ⊥) → get_or l j 0 ≡ get_or l k 0 → j ≡ k)
    → (j k : ℕ) → P j → P k → get_or (set l i a) j 0 ≡ get_or (set l i a) k 0 → j ≡ k
set_once P l i a h new old j k b b' e = by_case (ℕ_discrete j i) (ℕ_discrete k i)
  where
    by_case : Dec (j ≡ i) → Dec (k ≡ i) → j ≡ k
    by_case (yes p) (yes q) = p ∙ sym q
    by_case (yes p) (no q) = absurd (new k b' q (sym (get_or-set_other l i k a 0 q) ∙ sym e ∙ ap (λ (n : ℕ). get_or (set l i a) n 0) p ∙ get_or-set_same l i a 0 h))
    by_case (no p) (yes q) = absurd (new j b p (sym (get_or-set_other l i j a 0 p) ∙ e ∙ ap (λ (n : ℕ). get_or (set l i a) n 0) q ∙ get_or-set_same l i a 0 h))
    by_case (no p) (no q) = old j k b b' p q (sym (get_or-set_other l i j a 0 p) ∙ e ∙ get_or-set_other l i k a 0 q)

-- ---- a list of one element
pub replicate_le : (n i a : ℕ) → get_or (replicate n a) i 0 ≤ a
replicate_le zero i a = omega arith
replicate_le (suc n) zero a = omega arith
replicate_le (suc n) (suc i) a = replicate_le n i a

pub take_replicate : {A : Type 0} (n k : ℕ) (a : A) → k ≤ n → take k (replicate n a) ≡ replicate k a
take_replicate n zero a h = refl
take_replicate zero (suc k) a h = absurd (omega arith)
take_replicate {A} (suc n) (suc k) a h = ap (λ (l : List A). a ∷ l) (take_replicate n k a (omega arith))

-- the first k of N flags of which none is set: a part of a local array
pub flags_long : (N k : ℕ) → k ≤ N → length {A = Bool} (take k (replicate N false)) ≡ k
flags_long N k h = length-take-le k (replicate N false) (omega (arith, length-replicate {A = Bool} N false))

pub flags_clear : (N k x : ℕ) → get_or {A = Bool} (take k (replicate N false)) x false ≡ false
flags_clear N zero x = refl
flags_clear zero (suc k) x = refl
flags_clear (suc N) (suc k) zero = refl
flags_clear (suc N) (suc k) (suc x) = flags_clear N k x

-- a list filled to its end
pub filled : (l m : List ℕ) (i v : ℕ) → i ≡ length m → l ≡ replicate i v ++ drop i m → l ≡ replicate (length m) v
filled l m i v p e =
    e ∙ ap (λ (x : List ℕ). replicate i v ++ x) (drop_of_length-le m {i = i} (omega arith)) ∙ append-nil (replicate i v) ∙ ap (λ (n : ℕ). replicate n v) p
