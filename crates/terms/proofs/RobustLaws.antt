-- The stopping rule and the choice: J is the smallest j of its definition, and no path has a smaller figure than the one chosen at J. Assumes nothing.
use Prim.Native.Nat.{ℕ, zero, suc, ◌-◌, min, ◌≤◌, ◌<◌}
use native.Mathlib.Omega.{arith}
use native.Mathlib.Nat.{eq-or-lt_of_le}
use mathlib.Core.Path.{◌≡◌, refl, sym, ◌∙◌, ap, ap₂}
use mathlib.Core.Bool.{Bool, true, false}
use mathlib.Core.Logic.{◌⊎◌, inl, inr, ⊎_elim}
use mathlib.Core.List.Memᴰ
use mathlib.Core.List.{List, [], ◌∷◌, map, map-append}
use lib.Dec.{eqb, leb}
use lib.ListN.{length, take, get_or}
use lib.Seq.{take-suc, take_all}
use borrow.Author.Tests.{eqb-true, eqb-false, eq-eqb, ne_eqb, leb-true, leb-false, le-leb, lt-leb}
use Rattle.terms.specs.Lists.{◌∈◌, least, index}
use Rattle.terms.specs.Network.{Graph}
use Rattle.terms.specs.Paths.{Route}
use Rattle.terms.specs.Ranking.{before}
use Rattle.terms.specs.Robust.{settled, left_open, no_path, least_figure, enough, needed, choice, answer}
pub use Rattle.terms.specs.Demand3.{Stops}
use Rattle.terms.proofs.ListLaws.{le_or_lt, map_same, take_mem, get_or_mem, or_cases, or_right, or_false, place_mem, mem_place, least_le, least_attained, least_snoc, Smallest, smallest_is_smallest, smallest_unique, index_before, index_passes, index_le, index_is}
use Rattle.terms.proofs.RankingLaws.{Rising, NoLater, rising_earlier, rising_split}

-- ---- Bj, the least figure among the first j: no figure of these is less, and one of them has it
module _ (fig : Route → ℕ) (ps : List Route) (j : ℕ) where
  pub least_figure_le : {p : Route} → p ∈ take j ps → least_figure fig ps j ≤ fig p
  unfolding least_figure
  least_figure_le m = least_le (Memᴰ.map fig m)

  least_figure_attained : 1 ≤ j → 1 ≤ length ps → (i : ℕ) × (i < j) × (i < length ps) × (fig (get_or ps i []) ≡ least_figure fig ps j)
  unfolding least_figure
  least_figure_attained lo some =
      let q = least_attained fig (place_mem j ps [] 0 lo some) in
      let i = mem_place j ps [] q.1 in
      (i.0, i.1, i.2, ap fig (sym i.3) ∙ q.2)

-- B1 is the first figure; one path more
pub least_figure_one : (fig : Route → ℕ) (p : Route) (ps : List Route) → least_figure fig (p ∷ ps) 1 ≡ fig p
unfolding least_figure least
least_figure_one fig p ps = refl

pub least_figure_suc : (fig : Route → ℕ) (ps : List Route) (j : ℕ) → 1 ≤ j → j < length ps → least_figure fig ps (suc j) ≡ min (least_figure fig ps j) (fig (get_or ps j []))
unfolding least_figure
least_figure_suc fig ps zero lo hi = absurd (omega arith)
least_figure_suc fig [] (suc j) lo hi = absurd (omega arith)
least_figure_suc fig (p ∷ ps) (suc j) lo hi = rw (take-suc ps j [] (omega arith), map-append fig (take j ps)) (least_snoc (fig p) (map fig (take j ps)) (fig (get_or ps j [])))

-- ---- the choice: the earliest path with the least figure among the first j
pub record Chosen (fig : Route → ℕ) (ps : List Route) (j : ℕ) (p : Route) : Type 0 where
  pub place : ℕ
  pub counted : place < j
  pub within : place < length ps
  pub at_place : p ≡ get_or ps place []
  pub has_least : fig p ≡ least_figure fig ps j
  pub earlier_more : (i : ℕ) → i < place → least_figure fig ps j < fig (get_or ps i [])

module _ (fig : Route → ℕ) (ps : List Route) (j : ℕ) where
  abbrev has_it : Route → Bool
  has_it p = eqb (fig p) (least_figure fig ps j)

  pub choice_is : {p : Route} → Chosen fig ps j p → choice fig ps j ≡ p
  unfolding choice
  choice_is {p} c = ap (λ (i : ℕ). get_or ps i []) (index_is has_it [] ps c.place c.within (eq-eqb _ _ (ap fig (sym c.at_place) ∙ c.has_least)) (λ i h. ne_eqb _ _ (earlier i h))) ∙ sym c.at_place
    where
      earlier : (i : ℕ) → i < c.place → fig (get_or ps i []) ≡ least_figure fig ps j → ⊥
      earlier i h e = omega (arith, c.earlier_more i h)

  pub choice_chosen : 1 ≤ j → 1 ≤ length ps → Chosen fig ps j (choice fig ps j)
  unfolding choice
  choice_chosen lo some =
      record { place = place; counted = omega (arith, upto, holder.1); within = within; at_place = refl; has_least = eqb-true _ _ (index_passes has_it [] ps within); earlier_more = earlier }
    where
      place : ℕ
      place = index has_it ps

      holder : (i : ℕ) × (i < j) × (i < length ps) × (fig (get_or ps i []) ≡ least_figure fig ps j)
      holder = least_figure_attained fig ps j lo some

      upto : place ≤ holder.0
      upto = index_le has_it [] ps holder.0 (eq-eqb _ _ holder.3)

      within : place < length ps
      within = omega (arith, upto, holder.2)

      earlier : (i : ℕ) → i < place → least_figure fig ps j < fig (get_or ps i [])
      earlier i h =
          omega (arith, least_figure_le fig ps j (place_mem j ps [] i (omega (arith, upto, holder.1)) (omega (arith, within))), eqb-false (fig (get_or ps i [])) (least_figure fig ps j) (index_before has_it [] ps i h))

-- ---- the stopping rule, over any list of paths with any deviations and figures: J of call 6 is the number of paths that it needs, if there is a path, and no other is
module _ (dev fig : Route → ℕ) (ps : List Route) where
  stops : {j : ℕ} → 1 ≤ length ps → Smallest (enough dev fig ps) 1 (length ps - 1) j → Stops dev fig ps j
  unfolding enough
  stops {j} some J =
      record {
        one_at_least = J.from;
        all_at_most = omega arith;
        holds = ⊎_elim (λ e. inl (omega arith)) (λ h. rule (or_cases (J.passes h))) (eq-or-lt_of_le J.upto);
        not_before = λ i lo hi. fails i (J.none_before i lo hi);
      }
    where
      rule : (eqb j (length ps) ≡ true) ⊎ (leb (least_figure fig ps j) (dev (get_or ps j [])) ≡ true) → (j ≡ length ps) ⊎ (least_figure fig ps j ≤ dev (get_or ps j []))
      rule (inl e) = inl (eqb-true j (length ps) e)
      rule (inr e) = inr (leb-true (least_figure fig ps j) (dev (get_or ps j [])) e)

      fails : (i : ℕ) → enough dev fig ps i ≡ false → dev (get_or ps i []) < least_figure fig ps i
      fails i e = leb-false (least_figure fig ps i) (dev (get_or ps i [])) (or_false (eqb i (length ps)) (leb (least_figure fig ps i) (dev (get_or ps i []))) e).1

  of_stops : {j : ℕ} → Stops dev fig ps j → Smallest (enough dev fig ps) 1 (length ps - 1) j
  unfolding enough
  of_stops {j} r =
      record {
        from = r.one_at_least;
        upto = omega arith;
        passes = λ _. passes r.holds;
        none_before = λ i lo hi. rw (ne_eqb i (length ps) (λ e. omega arith), lt-leb (least_figure fig ps i) (dev (get_or ps i [])) (r.not_before i lo hi));
      }
    where
      passes : (j ≡ length ps) ⊎ (least_figure fig ps j ≤ dev (get_or ps j [])) → enough dev fig ps j ≡ true
      passes (inl e) = rw (eq-eqb j (length ps) e)
      passes (inr h) = or_right (eqb j (length ps)) (le-leb (least_figure fig ps j) (dev (get_or ps j [])) h)

  pub needed_stops : 1 ≤ length ps → Stops dev fig ps (needed dev fig ps)
  unfolding needed
  needed_stops some = stops some (smallest_is_smallest (enough dev fig ps) 1 (length ps - 1))

  pub needed_is : {j : ℕ} → Stops dev fig ps j → needed dev fig ps ≡ j
  unfolding needed
  needed_is r = smallest_unique (smallest_is_smallest (enough dev fig ps) 1 (length ps - 1)) (of_stops r)

-- ---- along a ranked list whose deviations climb and are no more than the figures
module _ (g : Graph) (dev fig : Route → ℕ) (ps : List Route)
    (rising : Rising g ps) (climbs : (p q : Route) → before g p q ≡ true → dev p ≤ dev q) (no_more : (p : Route) → p ∈ ps → dev p ≤ fig p) where
  -- each path is among the first j, or has at least the deviation of the next as its figure
  pub figure_ahead : (j : ℕ) {q : Route} → j < length ps → q ∈ ps → (q ∈ take j ps) ⊎ (dev (get_or ps j []) ≤ fig q)
  figure_ahead j {q} h m = ⊎_elim (λ k. inl k) (λ n. inr (ahead n)) (rising_split g j rising h m)
    where
      ahead : NoLater g (get_or ps j []) q → dev (get_or ps j []) ≤ fig q
      ahead (inl e) = omega (arith, no_more q m, ap dev e)
      ahead (inr b) = omega (arith, no_more q m, climbs (get_or ps j []) q b)

  -- so where the rule holds no path at all has less than the least figure
  pub least_of_all : {j : ℕ} {q : Route} → Stops dev fig ps j → q ∈ ps → least_figure fig ps j ≤ fig q
  least_of_all {j} {q} stop m =
      ⊎_elim all (λ l. ⊎_elim all (λ h. ⊎_elim (least_figure_le fig ps j) (λ d. omega arith) (figure_ahead j l m)) stop.holds) (eq-or-lt_of_le stop.all_at_most)
    where
      all : j ≡ length ps → least_figure fig ps j ≤ fig q
      all e = least_figure_le fig ps j (rw (take_all j ps (omega arith)) m)

-- the chosen path of a ranked list is the earliest: each path before it has a larger figure
pub chosen_earliest : (g : Graph) {fig : Route → ℕ} {ps : List Route} {j : ℕ} {p q : Route} → Rising g ps → Chosen fig ps j p → q ∈ ps → before g q p ≡ true → fig p < fig q
chosen_earliest g {fig} {ps} {q} rising c m b =
    let i = mem_place c.place ps [] (rising_earlier g c.place rising c.within m (rw c.at_place at b)) in
    omega (arith, c.has_least, c.earlier_more i.0 i.1, ap fig i.3)

-- ---- the answer
module _ (dev fig wst : Route → ℕ) (K : ℕ) where
  pub answer_none : (ps : List Route) → length ps ≡ 0 → answer dev fig wst ps K ≡ no_path
  unfolding answer
  answer_none [] e = refl
  answer_none (p ∷ ps) e = absurd (omega arith)

  -- settled with the number of paths that the rule needs, if that is at most K
  pub answer_settled : (ps : List Route) {j : ℕ} {p : Route} → Stops dev fig ps j → j ≤ K → Chosen fig ps j p → answer dev fig wst ps K ≡ settled p (fig p) (wst p) j
  unfolding answer
  answer_settled [] stop h c = absurd (omega arith)
  answer_settled (x ∷ ps) {j} stop h c = rw (needed_is dev fig (x ∷ ps) stop, le-leb j K h, choice_is fig (x ∷ ps) j c)

  -- if the rule holds at no number up to K, and there are more paths, it needs more
  pub needs_more : (ps : List Route) → K < length ps → ((i : ℕ) → 1 ≤ i → i ≤ K → dev (get_or ps i []) < least_figure fig ps i) → K < needed dev fig ps
  needs_more ps more going = ⊎_elim (λ h. absurd (stopped h J.holds)) (λ h. h) (le_or_lt (needed dev fig ps) K)
    where
      J : Stops dev fig ps (needed dev fig ps)
      J = needed_stops dev fig ps (omega arith)

      stopped : needed dev fig ps ≤ K → (needed dev fig ps ≡ length ps) ⊎ (least_figure fig ps (needed dev fig ps) ≤ dev (get_or ps (needed dev fig ps) [])) → ⊥
      stopped h (inl e) = omega arith
      stopped h (inr d) = omega (arith, going (needed dev fig ps) J.one_at_least h)

  -- open with K paths otherwise, and the deviation of the next as floor
  pub answer_open : (ps : List Route) {p : Route} → K < needed dev fig ps → Chosen fig ps K p → answer dev fig wst ps K ≡ left_open p (fig p) (wst p) K (dev (get_or ps K []))
  unfolding answer
  answer_open [] more c = absurd (omega (arith, c.within))
  answer_open (x ∷ ps) more c = rw (lt-leb (needed dev fig (x ∷ ps)) K more, choice_is fig (x ∷ ps) K c)

-- ---- the answer depends only on the deviations, figures and worst columns of the ranked paths
module _ {dev dev' fig fig' wst wst' : Route → ℕ} (ps : List Route)
    (same_dev : (p : Route) → p ∈ ps → dev p ≡ dev' p) (same_fig : (p : Route) → p ∈ ps → fig p ≡ fig' p) (same_wst : (p : Route) → p ∈ ps → wst p ≡ wst' p) where
  same_least : (j : ℕ) → least_figure fig ps j ≡ least_figure fig' ps j
  unfolding least_figure
  same_least j = ap least (map_same (take j ps) (λ p m. same_fig p (take_mem j ps m)))

  same_stops : {j : ℕ} → Stops dev fig ps j → Stops dev' fig' ps j
  same_stops {j} s =
      record {
        one_at_least = s.one_at_least;
        all_at_most = s.all_at_most;
        holds = ⊎_elim (λ e. inl e) (λ l. ⊎_elim (λ e. inl e) (λ h. inr (omega (arith, same_least j, same_dev (get_or ps j []) (get_or_mem ps [] j l)))) s.holds) (eq-or-lt_of_le s.all_at_most);
        not_before = λ i lo hi. omega (arith, s.not_before i lo hi, same_least i, same_dev (get_or ps i []) (get_or_mem ps [] i (omega (arith, s.all_at_most))));
      }

  same_chosen : {j : ℕ} {p : Route} → Chosen fig ps j p → Chosen fig' ps j p
  same_chosen {j} {p} c =
      record {
        place = c.place;
        counted = c.counted;
        within = c.within;
        at_place = c.at_place;
        has_least = sym (same_fig p (rw c.at_place (get_or_mem ps [] c.place c.within))) ∙ c.has_least ∙ same_least j;
        earlier_more = λ i h. omega (arith, c.earlier_more i h, same_least j, same_fig (get_or ps i []) (get_or_mem ps [] i (omega (arith, c.within))));
      }

  pub answer_same : (K : ℕ) → 1 ≤ K → answer dev fig wst ps K ≡ answer dev' fig' wst' ps K
  answer_same K lo = ⊎_elim some (λ h. answer_none dev fig wst K ps (omega arith) ∙ sym (answer_none dev' fig' wst' K ps (omega arith))) (le_or_lt 1 (length ps))
    where
      chosen_mem : {j : ℕ} {p : Route} → Chosen fig ps j p → p ∈ ps
      chosen_mem c = rw c.at_place (get_or_mem ps [] c.place c.within)

      J : ℕ
      J = needed dev fig ps

      some : 1 ≤ length ps → answer dev fig wst ps K ≡ answer dev' fig' wst' ps K
      some h = ⊎_elim few many (le_or_lt J K)
        where
          stop : Stops dev fig ps J
          stop = needed_stops dev fig ps h

          few : J ≤ K → answer dev fig wst ps K ≡ answer dev' fig' wst' ps K
          few l =
              let c = choice_chosen fig ps J stop.one_at_least h in
              let p = choice fig ps J in
              answer_settled dev fig wst K ps stop l c ∙ ap₂ (λ f w. settled p f w J) (same_fig p (chosen_mem c)) (same_wst p (chosen_mem c)) ∙ sym (answer_settled dev' fig' wst' K ps (same_stops stop) l (same_chosen c))

          many : K < J → answer dev fig wst ps K ≡ answer dev' fig' wst' ps K
          many l =
              let c = choice_chosen fig ps K lo h in
              let p = choice fig ps K in
              let f = same_fig p (chosen_mem c) in
              let w = same_wst p (chosen_mem c) in
              let d = same_dev (get_or ps K []) (get_or_mem ps [] K (omega (arith, stop.all_at_most))) in
              answer_open dev fig wst K ps l c ∙ (λ i. left_open p (f i) (w i) K (d i)) ∙ sym (answer_open dev' fig' wst' K ps (rw (needed_is dev' fig' ps (same_stops stop)) l) (same_chosen c))
