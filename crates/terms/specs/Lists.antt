-- Functions on lists that the terms of docs/REFERENCE.md are made of. Assumes nothing.
use Rattle.std.specs.Prelude.{ℕ, zero, suc, min, max, Bool, false, ◌||◌, cond, eqb}
use mathlib.Core.List.{List, [], ◌∷◌, foldr, Memᴰ}

infix 50 ◌∈◌
-- a is a member of l
abbrev pub ◌∈◌ {ℓ} : {A : Type ℓ} → A → List A → Type ℓ
a ∈ l = Memᴰ a l

-- the same as a test, of numbers
unfoldable pub elem : ℕ → List ℕ → Bool
elem x [] = false
elem x (y ∷ l) = eqb x y || elem x l

-- the elements that pass a test, in their order
unfoldable pub keep {ℓ} : {A : Type ℓ} → (A → Bool) → List A → List A
keep f [] = []
keep f (x ∷ l) = cond (f x) (x ∷ keep f l) (keep f l)

-- the elements whose place passes a test, in their order; the first has place i
unfoldable pub pick {ℓ} : {A : Type ℓ} → (ℕ → Bool) → ℕ → List A → List A
pick f i [] = []
pick f i (x ∷ l) = cond (f i) (x ∷ pick f (suc i) l) (pick f (suc i) l)

-- the least and the largest number of a list; 0 of the empty one
unfoldable pub least : List ℕ → ℕ
least [] = 0
least (x ∷ l) = foldr min x l

unfoldable pub largest : List ℕ → ℕ
largest [] = 0
largest (x ∷ l) = max x (largest l)

-- the place, from 0, of the first element that passes a test; the length if none does
unfoldable pub index {ℓ} : {A : Type ℓ} → (A → Bool) → List A → ℕ
index f [] = 0
index f (x ∷ l) = cond (f x) 0 (suc (index f l))

-- the last element; d of the empty list
unfoldable pub last {ℓ} : {A : Type ℓ} → A → List A → A
last d [] = d
last d (x ∷ l) = last x l

-- the numbers from i on, k of them
unfoldable pub numbers : ℕ → ℕ → List ℕ
numbers i zero = []
numbers i (suc k) = i ∷ numbers (suc i) k

-- the smallest number from i on that passes a test, of f numbers; i + f if none of these does
unfoldable pub smallest : (ℕ → Bool) → ℕ → ℕ → ℕ
smallest test i zero = i
smallest test i (suc f) = let later = smallest test (suc i) f in cond (test i) i later
