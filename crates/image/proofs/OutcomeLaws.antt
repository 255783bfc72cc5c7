-- Rows one after another, and the outcome that they come to. Assumes nothing.
-- ---- rows
-- a fault stays, and after sound rows the next decide
use Prim.Native.Nat.{ℕ}
use native.Mathlib.Omega.{arith}
use mathlib.Core.Path.{◌≡◌, refl}
use mathlib.Core.Bool.{Bool, true, false}
use mathlib.Core.List.{List, ◌++◌}
use lib.ListN.{length, drop}
use Rattle.image.specs.Outcome.{Fault, sound, fault, row, ◌then◌, gives, refuses, outcome, after}

pub then_fault : {f : Fault} {n p : ℕ} (g : Fault) → f ≡ fault n p → (f then g) ≡ fault n p
unfolding ◌then◌
then_fault g e = rw e

pub then_next : {f : Fault} (g : Fault) → f ≡ sound → (f then g) ≡ g
unfolding ◌then◌
then_next g e = rw e

-- rows are sound only if each of them is
pub then_sound : (f g : Fault) → (f then g) ≡ sound → (f ≡ sound) × (g ≡ sound)
unfolding ◌then◌
then_sound sound g e = (refl, e)
then_sound (fault n p) g e = let z : ◌≡◌ {A = ℕ} 0 1 = cc in absurd (omega arith)

pub row_sound : (n p : ℕ) (t : Bool) → row n p t ≡ sound → t ≡ false
unfolding row
row_sound n p true e = let z : ◌≡◌ {A = ℕ} 0 1 = cc in absurd (omega arith)
row_sound n p false e = refl

-- ---- outcomes
pub outcome_fault : {f : Fault} {n p : ℕ} (values : List ℕ) → f ≡ fault n p → outcome f values ≡ refuses n p
unfolding outcome
outcome_fault values e = rw e

pub outcome_sound : {f : Fault} (values : List ℕ) → f ≡ sound → outcome f values ≡ gives values
unfolding outcome
outcome_sound values e = rw e

-- and back
pub gives_sound : (f : Fault) (values : List ℕ) {given : List ℕ} → gives given ≡ outcome f values → (f ≡ sound) × (given ≡ values)
unfolding outcome
gives_sound sound values e = (refl, cc)
gives_sound (fault n p) values e = let z : ◌≡◌ {A = ℕ} 0 1 = cc in absurd (omega arith)

pub refuses_fault : (f : Fault) (values : List ℕ) {n p : ℕ} → refuses n p ≡ outcome f values → f ≡ fault n p
unfolding outcome
refuses_fault sound values e = let z : ◌≡◌ {A = ℕ} 0 1 = cc in absurd (omega arith)
refuses_fault (fault n p) values e = cc

-- ---- lent slices
pub after_fault : {f : Fault} {n p : ℕ} (new old : List ℕ) → f ≡ fault n p → after f new old ≡ old
unfolding after
after_fault new old e = rw e

pub after_sound : {f : Fault} (new old : List ℕ) → f ≡ sound → after f new old ≡ new ++ drop (length new) old
unfolding after
after_sound new old e = rw e
