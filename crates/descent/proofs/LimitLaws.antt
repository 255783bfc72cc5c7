-- The limit: the number of arcs tried only grows, so a run cut at the limit is cut exactly if the whole rule tries more. Assumes nothing.
use Prim.Native.Nat.{ℕ, zero, suc, ◌≤◌, ◌<◌}
use native.Mathlib.Omega.{arith}
use mathlib.Core.Path.{◌≡◌, refl, sym, ◌∙◌, ap}
use mathlib.Core.Bool.{Bool, true, false, cond}
use mathlib.Core.Logic.{◌⊎◌, inl, inr, ⊎_elim}
use mathlib.Core.List.{List, [], ◌∷◌}
use lib.Dec.{leb, eqb}
use borrow.Author.Tests.{leb-true, leb-false, le-leb, lt-leb}
use Rattle.terms.specs.Network.{Net}
use Rattle.terms.specs.Paths.{exits}
use Rattle.terms.specs.Regret.{figure}
use Rattle.descent.specs.Rule.{each, drawn, State, complete, one_more, dropped, laid, try, descend, search, fresh_state}
use Rattle.descent.specs.Limit.{Run, going, cut, then_on, try_within, descend_within, search_within, within}
use Rattle.terms.proofs.ListLaws.{split, by_cond, le_or_lt}

-- ---- steps that do not lower the count, one after the other
pub each_grows : (step : ℕ → State → State) → ((h : ℕ) (z : State) → z.tried ≤ (step h z).tried) → (l : List ℕ) (z : State) → z.tried ≤ (each step l z).tried
unfolding each
each_grows step g [] z = omega arith
each_grows step g (h ∷ l) z = omega (arith, g h z, each_grows step g l (step h z))

-- ---- held against the limit
pub within_going : (limit : ℕ) (z : State) → z.tried ≤ limit → within limit z ≡ going z
unfolding within
within_going limit z h = rw (le-leb z.tried limit h)

pub within_cut : (limit : ℕ) (z : State) → limit < z.tried → within limit z ≡ cut
unfolding within
within_cut limit z h = rw (lt-leb z.tried limit h)

-- what is cut stays cut
pub cut_stays : (step : ℕ → State → Run) (l : List ℕ) → each (λ h. then_on (step h)) l cut ≡ cut
unfolding each then_on
cut_stays step [] = refl
cut_stays step (h ∷ l) = cut_stays step l

-- steps that are each held against the limit are so in all
module _ (limit : ℕ) (step : ℕ → State → State) (limited : ℕ → State → Run) (grows : (h : ℕ) (z : State) → z.tried ≤ (step h z).tried)
    (same : (h : ℕ) (z : State) → z.tried ≤ limit → limited h z ≡ within limit (step h z)) where
  each_within : (l : List ℕ) (z : State) → z.tried ≤ limit → each (λ h. then_on (limited h)) l (going z) ≡ within limit (each step l z)
  unfolding each then_on
  each_within [] z few = sym (within_going limit z few)
  each_within (h ∷ l) z few =
      ap (each (λ h. then_on (limited h)) l) (same h z few) ∙
      ⊎_elim (λ k. ap (each (λ h. then_on (limited h)) l) (within_going limit (step h z) k) ∙ each_within l (step h z) k)
      (λ k. ap (each (λ h. then_on (limited h)) l) (within_cut limit (step h z) k) ∙ cut_stays limited l ∙ sym (within_cut limit (each step l (step h z)) (omega (arith, each_grows step grows l (step h z)))))
      (le_or_lt (step h z).tried limit)

module _ (net : Net) (s t : ℕ) where
  -- ---- "the count only grows along the run"
  try_grows : (seen : List ℕ) (v h : ℕ) (deeper : State → State) → ((z : State) → z.tried ≤ (deeper z).tried) → (z : State) → z.tried < (try net s t seen v h deeper z).tried
  unfolding try one_more
  try_grows seen v h deeper g z = by_cond (λ (y : State). z.tried < y.tried) (dropped net s t (laid seen v) v h z.found) (λ _. omega arith) (λ _. omega (arith, g (one_more z)))

  pub descend_grows : (f : ℕ) (seen : List ℕ) (v : ℕ) (z : State) → z.tried ≤ (descend f net s t seen v z).tried
  unfolding descend complete
  descend_grows zero seen v z = omega arith
  descend_grows (suc f) seen v z =
      by_cond (λ (y : State). z.tried ≤ y.tried) (eqb v t) (λ _. omega arith)
      (λ _. each_grows (λ h. try net s t seen v h (descend f net s t (v ∷ seen) h)) (λ h y. omega (arith, try_grows seen v h (descend f net s t (v ∷ seen) h) (descend_grows f (v ∷ seen) h) y)) (exits (drawn net) (v ∷ seen) v) z)

  -- ---- "a run cut at the limit is cut exactly if the whole count exceeds it"
  module _ (limit : ℕ) where
    try_limited : (seen : List ℕ) (v h : ℕ) (deeper : State → State) (limited : State → Run) → ((z : State) → z.tried ≤ (deeper z).tried)
        → ((z : State) → z.tried ≤ limit → limited z ≡ within limit (deeper z)) → (z : State) → z.tried ≤ limit → try_within limit net s t seen v h limited z ≡ within limit (try net s t seen v h deeper z)
    unfolding try try_within one_more
    try_limited seen v h deeper limited g same z few =
        ⊎_elim (λ k. rw k (sym (within_cut limit (try net s t seen v h deeper z) (omega (arith, leb-true limit z.tried k, try_grows seen v h deeper g z)))))
        (λ k. rw k (room (leb-false limit z.tried k) (split (dropped net s t (laid seen v) v h z.found))))
        (split (leb limit z.tried))
      where
        drop : Bool
        drop = dropped net s t (laid seen v) v h z.found

        room : z.tried < limit → (drop ≡ true) ⊎ (drop ≡ false) → cond drop (going (one_more z)) (limited (one_more z)) ≡ within limit (try net s t seen v h deeper z)
        room l (inl d) = rw d (sym (within_going limit (one_more z) l))
        room l (inr d) = rw d (same (one_more z) l)

    pub descend_limited : (f : ℕ) (seen : List ℕ) (v : ℕ) (z : State) → z.tried ≤ limit → descend_within limit f net s t seen v z ≡ within limit (descend f net s t seen v z)
    unfolding descend descend_within complete
    descend_limited zero seen v z few = sym (within_going limit z few)
    descend_limited (suc f) seen v z few =
        ⊎_elim (λ e. rw e (sym (within_going limit (complete (figure net s t) (laid seen v) z) few)))
        (λ e. rw e (each_within limit (λ h. try net s t seen v h (descend f net s t (v ∷ seen) h)) (λ h. try_within limit net s t seen v h (descend_within limit f net s t (v ∷ seen) h))
        (λ h y. omega (arith, try_grows seen v h (descend f net s t (v ∷ seen) h) (descend_grows f (v ∷ seen) h) y))
        (λ h y few'. try_limited seen v h (descend f net s t (v ∷ seen) h) (descend_within limit f net s t (v ∷ seen) h) (descend_grows f (v ∷ seen) h) (descend_limited f (v ∷ seen) h) y few')
        (exits (drawn net) (v ∷ seen) v) z few))
        (split (eqb v t))

    pub search_limited : search_within limit net s t ≡ within limit (search net s t)
    unfolding search search_within
    search_limited = descend_limited net.nodes [] s fresh_state (omega arith)

-- ---- so the limited search gives the rule's own answer and count exactly if that count is at most the limit, and is cut exactly if it is more
module _ (limit : ℕ) (net : Net) (s t : ℕ) where
  pub few_going : (search net s t).tried ≤ limit → search_within limit net s t ≡ going (search net s t)
  few_going h = search_limited net s t limit ∙ within_going limit (search net s t) h

  pub many_cut : limit < (search net s t).tried → search_within limit net s t ≡ cut
  many_cut h = search_limited net s t limit ∙ within_cut limit (search net s t) h

  pub going_few : {z : State} → search_within limit net s t ≡ going z → (z ≡ search net s t) × ((search net s t).tried ≤ limit)
  going_few {z} e = ⊎_elim (λ h. (cc (few_going h), h)) (λ h. let z : ◌≡◌ {A = ℕ} 0 1 = cc (many_cut h) in absurd (omega arith)) (le_or_lt (search net s t).tried limit)

  pub cut_many : search_within limit net s t ≡ cut → limit < (search net s t).tried
  cut_many e = ⊎_elim (λ h. let z : ◌≡◌ {A = ℕ} 0 1 = cc (few_going h) in absurd (omega arith)) (λ h. h) (le_or_lt (search net s t).tried limit)
