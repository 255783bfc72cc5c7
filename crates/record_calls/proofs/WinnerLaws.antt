-- The winner of a list has the greatest stamp, and no record behind it has the same. Assumes nothing.
use Prim.Native.Nat.{ℕ, ◌≤◌, ◌<◌}
use native.Mathlib.Omega.{arith}
use mathlib.Core.Path.{◌≡◌, refl, ap}
use mathlib.Core.Bool.{true, false}
use mathlib.Core.List.Memᴰ
use mathlib.Core.List.{List, [], ◌∷◌, ◌++◌}
use mathlib.Core.Option.{Option, none, some}
use mathlib.Core.Logic.{⊎_elim}
use lib.Dec.{leb}
use borrow.Author.Tests.{leb-true, leb-false}
use Rattle.terms.specs.Lists.{◌∈◌}
use Rattle.terms.proofs.ListLaws.{by_cond, clash}
use Rattle.record_calls.specs.Records.{Record, is_about, counting, winner}
use Rattle.record_calls.specs.Updates.{Wins, Winning}

module _ (arc column : ℕ) where
  data Won (l : List Record) : Option Record → Type 0 where
    nobody : ((s : Record) → s ∈ l → is_about arc column s ≡ false) → Won l none
    somebody : {r : Record} (before behind : List Record) → l ≡ before ++ (r ∷ behind) → Wins arc column before r behind → Won l (some r)

  -- one record more in front
  none_more : (r : Record) (l : List Record) → is_about arc column r ≡ false → ((s : Record) → s ∈ l → is_about arc column s ≡ false) → (s : Record) → s ∈ r ∷ l → is_about arc column s ≡ false
  none_more r l f all s m = ⊎_elim (λ (q : s ≡ r). rw q f) (all s) (Memᴰ.cases_cons m)

  wins_more : (q : Record) {r : Record} {before behind : List Record} → (is_about arc column q ≡ true → q.stamp ≤ r.stamp) → Wins arc column before r behind → Wins arc column (q ∷ before) r behind
  wins_more q {r} {before} le w = record { about = w.about; no_less = at_most; greater = w.greater }
    where
      at_most : (s : Record) → s ∈ q ∷ before → is_about arc column s ≡ true → s.stamp ≤ r.stamp
      at_most s m a = ⊎_elim (λ (e : s ≡ q). rw e (le (rw e at a))) (λ o. w.no_less s o a) (Memᴰ.cases_cons m)

  wins_first : (r : Record) (l : List Record) → is_about arc column r ≡ true → ((s : Record) → s ∈ l → is_about arc column s ≡ true → s.stamp < r.stamp) → Wins arc column [] r l
  wins_first r l t less = record { about = t; no_less = nothing; greater = less }
    where
      nothing : (s : Record) → s ∈ [] → is_about arc column s ≡ true → s.stamp ≤ r.stamp
      nothing s m a = elim m [ ]

  -- below the winner of a list are all its records
  all_less : {l before behind : List Record} {s : Record} (r : Record) → l ≡ before ++ (s ∷ behind) → Wins arc column before s behind → s.stamp < r.stamp → (x : Record) → x ∈ l → is_about arc column x ≡ true → x.stamp < r.stamp
  all_less {l} {before} {behind} {s} r e w h x m a = ⊎_elim (λ o. omega (arith, w.no_less x o a)) (λ o. ⊎_elim (λ (q : x ≡ s). rw q h) (λ b. omega (arith, w.greater x b a)) (Memᴰ.cases_cons o)) (Memᴰ.append_cases before (rw e at m))

  skip : (r : Record) (l : List Record) {w : Option Record} → is_about arc column r ≡ false → Won l w → Won (r ∷ l) w
  skip r l f (nobody all) = nobody (none_more r l f all)
  skip r l f (somebody before behind e w) = somebody (r ∷ before) behind (ap (λ (t : List Record). r ∷ t) e) (wins_more r (λ t. clash t f) w)

  step : (r : Record) (l : List Record) {w : Option Record} → is_about arc column r ≡ true → Won l w → Won (r ∷ l) (some (counting r w))
  unfolding counting
  step r l t (nobody all) = somebody [] l refl (wins_first r l t (λ s m a. clash a (all s m)))
  step r l t (somebody {r = s} before behind e w) =
      by_cond (λ (x : Record). Won (r ∷ l) (some x)) (leb r.stamp s.stamp) (λ h. somebody (r ∷ before) behind (ap (λ (t : List Record). r ∷ t) e) (wins_more r (λ a. leb-true _ _ h) w)) (λ h. somebody [] l refl (wins_first r l t (all_less r e w (leb-false _ _ h))))

  won : (l : List Record) → Won l (winner arc column l)
  unfolding winner
  won [] = nobody nothing
    where
      nothing : (s : Record) → s ∈ [] → is_about arc column s ≡ false
      nothing s m = elim m [ ]
  won (r ∷ l) = by_cond (Won (r ∷ l)) (is_about arc column r) (λ t. step r l t (won l)) (λ f. skip r l f (won l))

  none_of : {l : List Record} {w : Option Record} → Won l w → w ≡ none → (s : Record) → s ∈ l → is_about arc column s ≡ false
  none_of (nobody all) e = all
  none_of (somebody before behind q w) e = let z : ◌≡◌ {A = ℕ} 0 1 = cc in absurd (omega arith)

  one_of : {l : List Record} {w : Option Record} → Won l w → (r : Record) → w ≡ some r → (before : List Record) × (behind : List Record) × (l ≡ before ++ (r ∷ behind)) × Wins arc column before r behind
  one_of (nobody all) r e = let z : ◌≡◌ {A = ℕ} 0 1 = cc in absurd (omega arith)
  one_of (somebody {r = s} before behind q w) r e = let f : r ≡ s = cc in rw f (before, behind, q, w)

  pub winning : (l : List Record) → Winning arc column l
  winning l = record { none_about = none_of (won l); one_wins = one_of (won l) }
