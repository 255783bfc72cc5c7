-- Every element, and a step for each. Assumes nothing.
use mathlib.Core.Path.{◌≡◌, refl, sym, ◌∙◌, ap}
use mathlib.Core.Bool.{Bool, true, false}
use mathlib.Core.Logic.{⊎_elim}
use mathlib.Core.List.Memᴰ
use mathlib.Core.List.{List, [], ◌∷◌, ◌++◌, map, flat_map}
use Rattle.terms.specs.Lists.{◌∈◌, keep}
use Rattle.terms.proofs.ListLaws.{split, and_both}
use Rattle.descent.specs.Rule.{every, each}

-- ---- every tests all members
pub every_all : {A : Type 0} (f : A → Bool) {x : A} {l : List A} → every f l ≡ true → x ∈ l → f x ≡ true
unfolding every
every_all f e (Memᴰ.head {x = y} {xs = l} d) = ap f d ∙ (and_both (f y) (every f l) e).0
every_all f e (Memᴰ.tail {x = y} {xs = l} m) = every_all f (and_both (f y) (every f l) e).1 m

pub all_every : {A : Type 0} (f : A → Bool) (l : List A) → ((x : A) → x ∈ l → f x ≡ true) → every f l ≡ true
unfolding every
all_every f [] h = refl
all_every f (x ∷ l) h = rw (h x (Memᴰ.head refl)) (all_every f l (λ y m. h y (Memᴰ.tail m)))

-- ---- each: over two lists one after the other, over the values of a function, and where no step changes anything
pub each_append : {A Z : Type 0} (f : A → Z → Z) (k l : List A) (z : Z) → each f (k ++ l) z ≡ each f l (each f k z)
unfolding each
each_append f [] l z = refl
each_append f (x ∷ k) l z = each_append f k l (f x z)

pub each_map : {A B Z : Type 0} (f : B → Z → Z) (g : A → B) (l : List A) (z : Z) → each f (map g l) z ≡ each (λ x. f (g x)) l z
unfolding each
each_map f g [] z = refl
each_map f g (x ∷ l) z = each_map f g l (f (g x) z)

pub each_idle : {A Z : Type 0} (f : A → Z → Z) (l : List A) (z : Z) → ((x : A) → x ∈ l → f x z ≡ z) → each f l z ≡ z
unfolding each
each_idle f [] z h = refl
each_idle f (x ∷ l) z h = ap (each f l) (h x (Memᴰ.head refl)) ∙ each_idle f l z (λ y m. h y (Memᴰ.tail m))

-- a run over l, seen through `out`, is one over the parts of the elements that pass, if the others change nothing there
module _ {A B Y Z : Type 0} (step : A → Z → Z) (out : Z → Y) (pass : A → Bool) (part : A → List B) (f : B → Y → Y)
    (one : (x : A) (z : Z) → pass x ≡ true → out (step x z) ≡ each f (part x) (out z)) (other : (x : A) (z : Z) → pass x ≡ false → out (step x z) ≡ out z) where
  pub each_parts : (l : List A) (z : Z) → out (each step l z) ≡ each f (flat_map part (keep pass l)) (out z)
  unfolding each keep flat_map
  each_parts [] z = refl
  each_parts (x ∷ l) z =
      each_parts l (step x z) ∙
      ⊎_elim (λ e. rw e (ap (each f (flat_map part (keep pass l))) (one x z e) ∙ sym (each_append f (part x) (flat_map part (keep pass l)) (out z)))) (λ e. rw e (ap (each f (flat_map part (keep pass l))) (other x z e)))
      (split (pass x))
