-- Ranked lists of which one has the members of another. Assumes nothing.
use Prim.Native.Nat.{ℕ, zero, suc, ◌≤◌}
use native.Mathlib.Omega.{arith}
use mathlib.Core.Path.{◌≡◌, refl, sym, ◌∙◌, ap}
use mathlib.Core.Bool.{true}
use mathlib.Core.Logic.{inl, inr, ⊎_elim}
use mathlib.Core.List.Memᴰ
use mathlib.Core.List.{List, ◌∷◌}
use lib.ListN.{length, take}
use Rattle.terms.specs.Lists.{◌∈◌}
use Rattle.terms.specs.Network.{Graph}
use Rattle.terms.specs.Paths.{Route}
use Rattle.terms.specs.Ranking.{before}
use Rattle.terms.proofs.ListLaws.{clash, take_mem}
use Rattle.terms.proofs.RankingLaws.{Rising, none_left, first, NoLater, before_irrefl, before_trans}

module _ (g : Graph) where
  pub before_no_later : (p : Route) {q r : Route} → before g p q ≡ true → NoLater g q r → before g p r ≡ true
  before_no_later p b (inl e) = rw e b
  before_no_later p {q} {r} b (inr c) = before_trans g p q r b c

  pub no_later_trans : {p q r : Route} → NoLater g p q → NoLater g q r → NoLater g p r
  no_later_trans (inl e) (inl e') = inl (e' ∙ e)
  no_later_trans {r} (inl e) (inr b) = inr (ap (λ z. before g z r) (sym e) ∙ b)
  no_later_trans {p} (inr b) l = inr (before_no_later p b l)

  past : {p q x : Route} {l : List Route} → p ≡ q → before g p x ≡ true → x ∈ q ∷ l → x ∈ l
  past {p} {x} e b m = ⊎_elim (λ d. let z : x ≡ p = d ∙ sym e in clash (rw z at b) (before_irrefl g p)) (λ k. k) (Memᴰ.cases_cons m)

  -- the first j of a rising list rise; and a rising list of members of another is no longer than that
  pub take_rising : (j : ℕ) {l : List Route} → Rising g l → Rising g (take j l)
  take_rising zero r = none_left
  take_rising (suc j) none_left = none_left
  take_rising (suc j) (first {p} {l} a r) = first (λ q m. a q (take_mem j l m)) (take_rising j r)

  pub rising_fits : {k l : List Route} → Rising g k → Rising g l → ((p : Route) → p ∈ k → p ∈ l) → length k ≤ length l
  rising_fits none_left u i = omega arith
  rising_fits (first {p} a r) none_left i = elim (i p (Memᴰ.head refl)) [ ]
  rising_fits {k} (first {p} {l = k'} a r) (first {p = q} {l} b u) i =
      ⊎_elim (λ e. omega (arith, rising_fits r u (λ x m. past e (a x m) (i x (Memᴰ.tail m))))) (λ m. omega (arith, rising_fits (first a r) u (λ x n. inner x m n)))
      (Memᴰ.cases_cons (i p (Memᴰ.head refl)))
    where
      inner : (x : Route) → p ∈ l → x ∈ p ∷ k' → x ∈ l
      inner x m n = ⊎_elim (λ e. Memᴰ.cast e m) (λ o. past refl (before_trans g q p x (b p m) (a x o)) (i x (Memᴰ.tail o))) (Memᴰ.cases_cons n)
