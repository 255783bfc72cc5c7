-- Whether a route touches an arc, and whether two lists are equal: what the tests say, and how they go from place to place. Assumes nothing.
use Prim.Native.Nat.{ℕ, zero, suc, ◌+◌, ◌<◌}
use native.Mathlib.Omega.{arith}
use mathlib.Core.Path.{◌≡◌, refl, sym, ◌∙◌, ap, ap₂}
use mathlib.Core.Bool.{Bool, true, false, ◌&&◌}
use mathlib.Core.Logic.{⊎_elim}
use mathlib.Core.List.{List, [], ◌∷◌}
use lib.Dec.{eqb}
use lib.ListN.{length, get_or}
use lib.Pointwise.{pointwise}
use borrow.Author.Tests.{eqb-true, eq-eqb}
use Rattle.terms.specs.Paths.{Route}
use Rattle.terms.proofs.ListLaws.{clash, or_right, or_cases, and_both}
use Rattle.terms.proofs.GraphLaws.{Next, here, later}
use Rattle.closures.specs.Standing.{touches, touches_after, alike}

-- ---- what they say
touches_later : (c : ℕ × ℕ) (v : ℕ) (p : List ℕ) → touches c p ≡ true → touches c (v ∷ p) ≡ true
unfolding touches touches_after
touches_later c v [] e = clash e refl
touches_later c v (h ∷ p) e = or_right (eqb v c.0 && eqb h c.1) e

-- a route touches an arc if it goes from its tail to its head
pub next_touches : (c : ℕ × ℕ) {a b : ℕ} {p : Route} → c.0 ≡ a → c.1 ≡ b → Next a b p → touches c p ≡ true
unfolding touches touches_after
next_touches c ea eb (here {v} {h} e e') = rw (eq-eqb v c.0 (e ∙ sym ea), eq-eqb h c.1 (e' ∙ sym eb))
next_touches c ea eb (later {v} {p} n) = touches_later c v p (next_touches c ea eb n)

-- lists that pass are equal
pub alike_equal : (k l : List ℕ) → alike k l ≡ true → k ≡ l
unfolding alike
alike_equal [] [] e = refl
alike_equal [] (y ∷ l) e = clash e refl
alike_equal (x ∷ k) [] e = clash e refl
alike_equal (x ∷ k) (y ∷ l) e = let h = and_both (eqb x y) (alike k l) e in ap₂ (λ a z. a ∷ z) (eqb-true x y h.0) (alike_equal k l h.1)

-- `==` of two slices of numbers
pub alike_is : (k l : List ℕ) → pointwise eqb k l ≡ alike k l
unfolding alike
alike_is [] [] = refl
alike_is [] (y ∷ l) = refl
alike_is (x ∷ k) [] = refl
alike_is (x ∷ k) (y ∷ l) = ap (λ t. eqb x y && t) (alike_is k l)

-- ---- a route touches an arc where two nodes of it are the arc's, one behind the other, and nowhere else
pub touches_at : (a : ℕ × ℕ) (l : List ℕ) (k : ℕ) → k + 1 < length l → get_or l k 0 ≡ a.0 → get_or l (suc k) 0 ≡ a.1 → touches a l ≡ true
unfolding touches touches_after
touches_at a [] k h e e' = absurd (omega arith)
touches_at a (v ∷ []) k h e e' = absurd (omega arith)
touches_at a (v ∷ x ∷ l) zero h e e' = rw (eq-eqb v a.0 e, eq-eqb x a.1 e') refl
touches_at a (v ∷ x ∷ l) (suc k) h e e' = touches_later a v (x ∷ l) (touches_at a (x ∷ l) k (omega arith) e e')

pub touches_nowhere : (a : ℕ × ℕ) (l : List ℕ) → ((k : ℕ) → k + 1 < length l → get_or l k 0 ≡ a.0 → get_or l (suc k) 0 ≡ a.1 → ⊥) → touches a l ≡ false
unfolding touches touches_after
touches_nowhere a l none = of_false _ (λ t. let p = touched a l t in none p.0 p.1 p.2 p.3)
  where
    touched : (a : ℕ × ℕ) (l : List ℕ) → touches a l ≡ true → (k : ℕ) × (k + 1 < length l) × (get_or l k 0 ≡ a.0) × (get_or l (suc k) 0 ≡ a.1)
    touched a [] t = clash t refl
    touched a (v ∷ []) t = clash t refl
    touched a (v ∷ x ∷ l) t = ⊎_elim (λ h. let b = and_both (eqb v a.0) (eqb x a.1) h in (0, omega arith, eqb-true v a.0 b.0, eqb-true x a.1 b.1)) (λ h. let p = touched a (x ∷ l) h in (suc p.0, omega (arith, p.1), p.2, p.3)) (or_cases t)

    of_false : (b : Bool) → (b ≡ true → ⊥) → b ≡ false
    of_false true n = absurd (n refl)
    of_false false n = refl
