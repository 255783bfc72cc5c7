-- What a call answers where another, that it made with `?`, refused. Assumes nothing.
use Rattle.std.proofs.Common.{◌≡◌, ◌∙◌, ℕ, List, Result, Ok, Err, IsErrAnd, sym, ap}
use Rattle.image.specs.declared.refusal.Refusal.{Refusal}
use Rattle.image.specs.Outcome.{Fault, fault, ◌then◌, Outcome, outcome, after}
use Rattle.image.specs.Refusals.{number_of, place_of, verdict}
use Rattle.image.specs.Calls.{image_fault, sizes, check_outcome}
use Rattle.image.specs.Answers.{answer, refused}
use Rattle.image.proofs.OutcomeLaws.{then_fault, outcome_fault, refuses_fault, after_fault}

-- `?` hands on the refusal e: r is what is returned
pub handed_on : {A : Type 0} (values : A → List ℕ) (r : Result A Refusal) (e : Refusal) → IsErrAnd r (λ x. x ≡ e) → answer values r ≡ refused e
handed_on values (Ok x) e h = absurd h
handed_on values (Err x) e h = ap refused h

pub handed_verdict : (r : Result (Unit {0}) Refusal) (e : Refusal) → IsErrAnd r (λ x. x ≡ e) → verdict r ≡ fault (number_of e) (place_of e)
handed_verdict (Ok x) e h = absurd h
handed_verdict (Err x) e h = ap verdict (ap Err h)

-- the rows f refuse with e, so those of f and then g do
pub refused_first : (f : Fault) (values : List ℕ) (e : Refusal) → refused e ≡ outcome f values → (g : Fault) (values' : List ℕ) → outcome (f then g) values' ≡ refused e
refused_first f values e told g values' = outcome_fault values' (then_fault g (refuses_fault f values told))

pub unchanged_first : (f : Fault) (values : List ℕ) (e : Refusal) → refused e ≡ outcome f values → (g : Fault) (new old : List ℕ) → after (f then g) new old ≡ old
unchanged_first f values e told g new old = after_fault new old (then_fault g (refuses_fault f values told))

-- both at once, of the answer r of the call that ends so
pub ends_first : {A : Type 0} (values : A → List ℕ) (r : Result A Refusal) (e : Refusal) → IsErrAnd r (λ x. x ≡ e) → (f : Fault) (vs : List ℕ) → refused e ≡ outcome f vs → (g : Fault) (vs' : List ℕ) → answer values r ≡ outcome (f then g) vs'
ends_first values r e h f vs told g vs' = handed_on values r e h ∙ sym (refused_first f vs e told g vs')

-- Check's answer, as an outcome of the image's rows
pub of_check : (b : List ℕ) {o : Outcome} → o ≡ check_outcome b → o ≡ outcome (image_fault b) (sizes b)
unfolding check_outcome
of_check b e = e
