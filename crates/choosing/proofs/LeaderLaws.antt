-- The earliest path with the least figure, as paths are counted one by one, and the answer where the count ends. Assumes nothing.
use Prim.Native.Nat.{ℕ, zero, suc, ◌+◌, ◌-◌, ◌≤◌, ◌<◌, min}
use native.Mathlib.Omega.{arith}
use native.Mathlib.Nat.{eq-or-lt_of_le}
use native.Mathlib.Numerals.{add-one}
use mathlib.Core.Path.{◌≡◌, refl, sym, ◌∙◌, ap, ap₂}
use mathlib.Core.Logic.{◌⊎◌, inl, inr, ⊎_elim}
use mathlib.Core.List.{List, [], ◌∷◌}
use lib.ListN.{length, take, get_or}
use Rattle.terms.specs.Lists.{◌∈◌}
use Rattle.terms.specs.Network.{Graph}
use Rattle.terms.specs.Paths.{Route, cost}
use Rattle.terms.specs.Robust.{settled, left_open, least_figure, answer}
use Rattle.terms.proofs.ListLaws.{place_mem}
use Rattle.terms.proofs.RankingLaws.{Rising}
use Rattle.terms.proofs.RobustLaws.{Stops, Chosen, least_figure_le, least_figure_one, least_figure_suc, answer_settled, needs_more, answer_open}
use Rattle.ranking.specs.State.{Beyond}
use Rattle.ranking.proofs.LateLaws.{settled_at}
use Rattle.choosing.specs.Leader.{Leads, Leading, Going}

-- ---- one path more is counted
module _ {fig wst : Route → ℕ} {ps : List Route} where
  -- the least figure with it
  one_more : (j : ℕ) {place figure worst f : ℕ} → Leading fig wst ps j place figure worst → j < length ps → f ≡ fig (get_or ps j []) → least_figure fig ps (j + 1) ≡ min figure f
  one_more zero {figure} {f} L h e = first ps h (L.above_all refl 0 h) e
    where
      first : (qs : List Route) → 0 < length qs → fig (get_or qs 0 []) < figure → f ≡ fig (get_or qs 0 []) → least_figure fig qs (0 + 1) ≡ min figure f
      first [] h a e = absurd (omega arith)
      first (p ∷ qs) h a e = least_figure_one fig p qs ∙ omega arith
  one_more (suc j) {figure} {f} L h e =
      ap (least_figure fig ps) (add-one (suc j)) ∙ least_figure_suc fig ps (suc j) (omega arith) h ∙ ap₂ min (sym (L.leads (omega arith)).least) (sym e)

  -- it has a smaller figure, and leads
  pub counted_better : (j : ℕ) {place figure worst f w : ℕ} → Leading fig wst ps j place figure worst → j < length ps → f ≡ fig (get_or ps j []) → w ≡ wst (get_or ps j []) → f < figure → Leading fig wst ps (j + 1) j f w
  counted_better j {figure} {f} L h e e' less =
      record { above_all = λ z. absurd (omega arith); leads = λ _. record { counted = omega arith; within = h; figure_is = e; worst_is = e'; least = omega (arith, one_more j L h e); earlier_more = earlier } }
    where
      earlier : (i : ℕ) → i < j → f < fig (get_or ps i [])
      earlier i k = omega (arith, (L.leads (omega arith)).least, least_figure_le fig ps j (place_mem j ps [] i k (omega arith)))

  -- it does not, and the leader stays
  pub counted_same : (j : ℕ) {place figure worst f : ℕ} → Leading fig wst ps j place figure worst → j < length ps → f ≡ fig (get_or ps j []) → figure ≤ f → Leading fig wst ps (j + 1) place figure worst
  counted_same zero L h e more = absurd (omega (arith, L.above_all refl 0 h))
  counted_same (suc j) L h e more =
      let l = L.leads (omega arith) in
      record {
        above_all = λ z. absurd (omega arith);
        leads = λ _. record { counted = omega (arith, l.counted); within = l.within; figure_is = l.figure_is; worst_is = l.worst_is; least = omega (arith, one_more (suc j) L h e); earlier_more = l.earlier_more };
      }

  pub leads_chosen : {j place figure worst : ℕ} → Leads fig wst ps j place figure worst → Chosen fig ps j (get_or ps place [])
  leads_chosen {place} l = record {
    place = place;
    counted = l.counted;
    within = l.within;
    at_place = refl;
    has_least = sym l.figure_is ∙ l.least;
    earlier_more = λ i h. omega (arith, l.least, l.earlier_more i h);
  }

-- ---- the stopping rule
module _ {dev fig : Route → ℕ} {ps : List Route} where
  -- at no number below 1
  pub going_none : Going dev fig ps 0
  going_none = record { not_before = λ i lo hi. absurd (omega arith) }

  -- the deviation of the next is less than the least figure of j paths: it does not hold at j either
  pub going_more : {wst : Route → ℕ} (j : ℕ) {place figure worst : ℕ} → Leading fig wst ps j place figure worst → dev (get_or ps j []) < figure → Going dev fig ps j → Going dev fig ps (j + 1)
  going_more j {figure} L d G = record { not_before = λ i lo hi. ⊎_elim (λ e. rw e (here (omega arith))) (λ h. G.not_before i lo h) (eq-or-lt_of_le {n = i} {m = j} (omega arith)) }
    where
      here : 1 ≤ j → dev (get_or ps j []) < least_figure fig ps j
      here lo = omega (arith, (L.leads lo).least)

-- ---- the answer of a ranked list, with the deviation the cost less the least
module _ {g : Graph} (low : ℕ) {fig wst : Route → ℕ} {ps : List Route} (rising : Rising g ps) {j place figure worst : ℕ} (L : Leads fig wst ps j place figure worst) (G : Going (λ p. cost g p - low) fig ps j) (inside : j ≤ length ps) where
  abbrev dev : Route → ℕ
  dev p = cost g p - low

  module _ (K : ℕ) (upto : j ≤ K) where
    settled_answer : Stops dev fig ps j → answer dev fig wst ps K ≡ settled (get_or ps place []) figure worst j
    settled_answer stop =
        answer_settled dev fig wst K ps stop upto (leads_chosen L)
        ∙ ap (λ (f : ℕ). settled (get_or ps place []) f (wst (get_or ps place [])) j) (sym L.figure_is) ∙ ap (λ (w : ℕ). settled (get_or ps place []) figure w j) (sym L.worst_is)

    -- all that is not among the first j costs at least the least and the least figure
    pub settled_rest : ((p : Route) → p ∈ ps → (p ∈ take j ps) ⊎ Beyond g (low + figure) p) → answer dev fig wst ps K ≡ settled (get_or ps place []) figure worst j
    settled_rest rest = settled_answer (settled_at g dev fig ps j rising (omega (arith, L.counted)) inside G.not_before (λ p m. ⊎_elim inl (λ b. inr (omega (arith, L.least))) (rest p m)))

  -- the next costs less
  pub open_answer : j < length ps → cost g (get_or ps j []) < low + figure → low ≤ cost g (get_or ps j []) → answer dev fig wst ps j ≡ left_open (get_or ps place []) figure worst j (cost g (get_or ps j []) - low)
  open_answer more cheap least =
      answer_open dev fig wst j ps (needs_more dev fig wst j ps more below) (leads_chosen L)
      ∙ ap (λ (f : ℕ). left_open (get_or ps place []) f (wst (get_or ps place [])) j (dev (get_or ps j []))) (sym L.figure_is) ∙ ap (λ (w : ℕ). left_open (get_or ps place []) figure w j (dev (get_or ps j []))) (sym L.worst_is)
    where
      below : (i : ℕ) → 1 ≤ i → i ≤ j → dev (get_or ps i []) < least_figure fig ps i
      below i lo hi = ⊎_elim (λ e. rw e (omega (arith, L.least))) (λ h. G.not_before i lo h) (eq-or-lt_of_le hi)
