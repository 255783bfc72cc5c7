-- Lists of which some places are picked, and from these some again. Assumes nothing.
use Prim.Native.Nat.{ℕ, zero, suc, ◌+◌}
use native.Mathlib.Omega.{arith}
use mathlib.Core.Path.{◌≡◌, refl, sym, ◌∙◌, ap, ap₂, fun_ext}
use mathlib.Core.Bool.{Bool, true, false, not, ◌&&◌, cond}
use mathlib.Core.Logic.{⊎_elim}
use mathlib.Core.List.Memᴰ
use mathlib.Core.List.{List, [], ◌∷◌, ◌++◌, map, map-map}
use lib.ListN.{length, get_or, length-map, get_or-eq_default, get_or-map}
use Rattle.terms.specs.Lists.{◌∈◌, keep, pick, numbers}
use Rattle.terms.proofs.ListLaws.{split, keep_all, keep_keep, pick_all, map_same, pick_places}

pub keep_same : {A : Type 0} {f g : A → Bool} (l : List A) → ((x : A) → x ∈ l → f x ≡ g x) → keep f l ≡ keep g l
unfolding keep
keep_same [] h = refl
keep_same {f} {g} (x ∷ l) h = ap₂ (λ (b : Bool) k. cond b (x ∷ k) k) (h x (Memᴰ.head refl)) (keep_same l (λ y m. h y (Memᴰ.tail m)))

pub keep_map : {A B : Type 0} (f : A → B) (g : B → Bool) (l : List A) → keep g (map f l) ≡ map f (keep (λ x. g (f x)) l)
unfolding keep
keep_map f g [] = refl
keep_map f g (x ∷ l) = ⊎_elim (λ e. rw e (ap (λ k. f x ∷ k) (keep_map f g l))) (λ e. rw e (keep_map f g l)) (split (g (f x)))

pub keep_none : {A : Type 0} (f : A → Bool) (l : List A) → ((x : A) → x ∈ l → f x ≡ false) → keep f l ≡ []
unfolding keep
keep_none f [] h = refl
keep_none f (x ∷ l) h = rw (h x (Memᴰ.head refl)) (keep_none f l (λ y m. h y (Memᴰ.tail m)))

-- those that pass a test and those that do not are all
pub keep_others : {A : Type 0} (f : A → Bool) (l : List A) → length (keep (λ x. not (f x)) l) + length (keep f l) ≡ length l
unfolding keep
keep_others f [] = refl
keep_others f (x ∷ l) = let ih = keep_others f l in ⊎_elim (λ e. rw e (omega (arith, ih))) (λ e. rw e (omega (arith, ih))) (split (f x))

pub numbers_append : (i a b : ℕ) → numbers i (a + b) ≡ numbers i a ++ numbers (i + a) b
unfolding numbers
numbers_append i zero b =
    let e : 0 + b ≡ b = omega arith in
    let e' : i ≡ i + 0 = omega arith in
    ap (numbers i) e ∙ ap (λ k. numbers k b) e'
numbers_append i (suc a) b =
    let e : suc a + b ≡ suc (a + b) = omega arith in
    let e' : suc i + a ≡ i + suc a = omega arith in
    ap (numbers i) e ∙ ap (λ l. i ∷ l) (numbers_append (suc i) a b ∙ ap (λ k. numbers (suc i) a ++ numbers k b) e')

pub numbers_from : (i k : ℕ) → numbers i k ≡ map (λ j. i + j) (numbers 0 k)
unfolding numbers
numbers_from i zero = refl
numbers_from i (suc k) =
    ap₂ (λ x l. x ∷ l) {x = i} {y = i + 0} (omega arith)
    (numbers_from (suc i) k ∙ map_same (numbers 0 k) (λ j m. same j) ∙ sym (map-map (λ j. i + j) (λ j. 1 + j) (numbers 0 k)) ∙ ap (map (λ j. i + j)) (sym (numbers_from 1 k)))
  where
    same : (j : ℕ) → suc i + j ≡ i + (1 + j)
    same j = omega arith

-- a list by its places
by_places : {A : Type 0} (d : A) (l : List A) → map (λ j. get_or l j d) (numbers 0 (length l)) ≡ l
by_places d l = ap (map (λ j. get_or l j d)) (sym (keep_all (λ _. true) (numbers 0 (length l)) (λ x m. refl))) ∙ sym (pick_places (λ _. true) d l) ∙ pick_all (λ _. true) 0 l (λ j. refl)

-- the old place of each that was picked of m; m, which is none, behind the last
abbrev pub old_place : (ℕ → Bool) → ℕ → ℕ → ℕ
old_place f m k = get_or (keep f (numbers 0 m)) k m

-- picking again from what was picked, by a test h of the old places
module _ {A : Type 0} (f : ℕ → Bool) (d : A) (l : List A) where
  pub picked_at : (k : ℕ) → get_or (pick f 0 l) k d ≡ get_or l (old_place f (length l) k) d
  picked_at k =
      ap (λ z. get_or z k d) (pick_places f d l)
      ∙ ap (get_or (map (λ j. get_or l j d) (keep f (numbers 0 (length l)))) k) {x = d} {y = get_or l (length l) d} (sym (get_or-eq_default l d (omega arith)))
      ∙ get_or-map (λ j. get_or l j d) (keep f (numbers 0 (length l))) k (length l)

  pub pick_pick : (g h : ℕ → Bool) → ((k : ℕ) → g k ≡ h (old_place f (length l) k)) → pick g 0 (pick f 0 l) ≡ pick (λ j. f j && h j) 0 l
  pick_pick g h same =
      pick_places g d (pick f 0 l)
      ∙ ap₂ (λ (at : ℕ → A) (k : List ℕ). map at k) (fun_ext picked_at) (ap₂ (λ (test : ℕ → Bool) (k : ℕ). keep test (numbers 0 k)) (fun_ext same) (ap length (pick_places f d l) ∙ length-map picked at_place))
      ∙ sym (map-map at_place old (keep (λ k. h (old k)) (numbers 0 (length picked))))
      ∙ ap (map at_place) (sym (keep_map old h (numbers 0 (length picked))) ∙ ap (keep h) (by_places (length l) picked) ∙ keep_keep f h (numbers 0 (length l)))
      ∙ sym (pick_places (λ j. f j && h j) d l)
    where
      picked : List ℕ
      picked = keep f (numbers 0 (length l))

      old : ℕ → ℕ
      old = old_place f (length l)

      at_place : ℕ → A
      at_place j = get_or l j d
