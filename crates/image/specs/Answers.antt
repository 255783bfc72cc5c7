-- What a call's answer says: the numbers of its result, or the refusal's number and place. Assumes nothing.
use Rattle.std.specs.Prelude.{List, [], ◌∷◌, ℕ, Result, Ok, Err}
use Rattle.image.specs.declared.refusal.Refusal.{Refusal}
use Rattle.image.specs.declared.check.Sizes.{Sizes}
use Rattle.image.specs.Outcome.{Outcome, gives, refuses}
use Rattle.image.specs.Refusals.{number_of, place_of}

abbrev pub refused : Refusal → Outcome
refused r = refuses (number_of r) (place_of r)

-- the numbers of a result, which `values` lists, or the refusal's number and place
abbrev pub answer : {A : Type 0} → (A → List ℕ) → Result A Refusal → Outcome
answer values (Ok x) = gives (values x)
answer values (Err r) = refused r

-- ---- what a result lists
-- n, m, k and the edition
abbrev pub size_list : Sizes → List ℕ
size_list s = s.n ∷ s.m ∷ s.k ∷ s.edition ∷ []

-- a result that is one number
abbrev pub one_number : ℕ → List ℕ
one_number n = n ∷ []

-- a call that gives no value
abbrev pub no_values : Unit {0} → List ℕ
no_values u = []
