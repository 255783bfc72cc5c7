-- Demand 3 holds of what the stopping rule answers over a ranked list, whatever the deviations and figures, if deviations climb along it and are
-- no more than the figures; and which kind of answer comes is settled exactly by its conditions. Assumes nothing.
use Prim.Native.Nat.{ℕ, ◌≤◌, ◌<◌}
use native.Mathlib.Omega.{arith}
use mathlib.Core.Path.{◌≡◌, refl}
use mathlib.Core.Bool.{true}
use mathlib.Core.Logic.{⊎_elim}
use mathlib.Core.List.{List, []}
use lib.ListN.{length, get_or}
use lib.Seq.{take-length}
use Rattle.terms.specs.Lists.{◌∈◌}
use Rattle.terms.specs.Network.{Graph}
use Rattle.terms.specs.Paths.{Route}
use Rattle.terms.specs.Ranking.{before}
use Rattle.terms.specs.Robust.{Answer, settled, left_open, no_path, least_figure, needed, choice, answer}
use Rattle.terms.specs.Demand3.{Contest, Needs, LeastRegret, Settled, Open, Demand, none, closed, unsettled}
use Rattle.terms.proofs.ListLaws.{le_or_lt, get_or_mem, place_mem, take_mem, mem_length}
use Rattle.terms.proofs.RankingLaws.{Rising}
use Rattle.terms.proofs.RobustLaws.{Chosen, choice_chosen, needed_stops, needed_is, least_figure_le, figure_ahead, least_of_all, chosen_earliest, answer_none, answer_settled, answer_open}

-- what the proof asks of a contest: its list has exactly its paths, in the ranking order; a later path has no smaller deviation,
-- and no path's deviation is more than its figure
pub record Ranks (c : Contest) : Type 0 where
  pub rising : Rising c.graph c.ranking
  pub lists : (p : Route) → c.admits p → p ∈ c.ranking
  pub listed : (p : Route) → p ∈ c.ranking → c.admits p
  pub climbs : (p q : Route) → before c.graph p q ≡ true → c.dev p ≤ c.dev q
  pub no_more : (p : Route) → p ∈ c.ranking → c.dev p ≤ c.fig p

module _ (c : Contest) (ok : Ranks c) where
  abbrev g : Graph
  g = c.graph

  abbrev ps : List Route
  ps = c.ranking

  abbrev dev : Route → ℕ
  dev = c.dev

  abbrev fig : Route → ℕ
  fig = c.fig

  abbrev wst : Route → ℕ
  wst = c.wst

  abbrev J : ℕ
  J = needed dev fig ps

  -- the chosen path is admitted, and each path before it has a larger figure
  chosen_path : {j : ℕ} {p : Route} → Chosen fig ps j p → c.admits p
  chosen_path {p} o = ok.listed p (rw o.at_place (get_or_mem ps [] o.place o.within))

  earliest : {j : ℕ} {p q : Route} → Chosen fig ps j p → q ∈ ps → before g q p ≡ true → fig p < fig q
  earliest o m b = chosen_earliest g ok.rising o m b

  -- ---- if there is a path, the rule needs a number of paths, and there is a least greatest regret
  pub path_needs : {p : Route} → p ∈ ps → Needs c J
  path_needs m = needed_stops dev fig ps (mem_length m)

  pub path_least_regret : {p : Route} → p ∈ ps → LeastRegret c (least_figure fig ps (length ps))
  path_least_regret m =
      let o = choice_chosen fig ps (length ps) (mem_length m) (mem_length m) in
      record { holder = choice fig ps (length ps); is_path = chosen_path o; attained = o.has_least; least = λ q k. least_figure_le fig ps (length ps) (rw (take-length ps) (ok.lists q k)) }

  -- ---- and if K is at least 1, the demand holds
  module _ (K : ℕ) (K-lo : 1 ≤ K) where
    -- the two kinds of answer, from where the rule stops
    when_settled : {p : Route} → 1 ≤ length ps → J ≤ K → Chosen fig ps J p → Settled c K p (fig p) (wst p) J
    when_settled some h o =
        record {
          count_needed = needed_stops dev fig ps some;
          count_within = h;
          is_path = chosen_path o;
          least = λ q k. rw o.has_least (least_of_all g dev fig ps ok.rising ok.climbs ok.no_more (needed_stops dev fig ps some) (ok.lists q k));
          earliest = λ q k b. earliest o (ok.lists q k) b;
          own_figure = refl;
          own_column = refl;
        }

    when_open : {p : Route} → K < J → Chosen fig ps K p → Open c K p (fig p) (wst p) K (dev (get_or ps K []))
    when_open {p} h o =
        record {
          needs_more = λ j n. rw (needed_is dev fig ps n) at h;
          count_all = refl;
          is_path = chosen_path o;
          counted = rw o.at_place (place_mem K ps [] o.place o.counted o.within);
          least = λ q m. rw o.has_least (least_figure_le fig ps K m);
          earliest = λ q m b. earliest o (take_mem K ps m) b;
          between = between;
          own_figure = refl;
          own_column = refl;
          one_more = one_more;
          floor_is = refl;
        }
      where
        stop : Needs c J
        stop = needed_stops dev fig ps (omega (arith, o.within))

        one_more : K < length ps
        one_more = omega (arith, stop.all_at_most)

        floor_under : (l : ℕ) → LeastRegret c l → dev (get_or ps K []) ≤ l
        floor_under l m =
            ⊎_elim (λ k. omega (arith, stop.not_before K K-lo h, least_figure_le fig ps K k, m.attained)) (λ k. omega (arith, m.attained))
            (figure_ahead g dev fig ps ok.rising ok.climbs ok.no_more K one_more (ok.lists m.holder m.is_path))

        between : (l : ℕ) → LeastRegret c l → (dev (get_or ps K []) ≤ l) × (l ≤ fig p)
        between l m = (floor_under l m, m.least p (chosen_path o))

    -- the whole demand, of what the stopping rule answers
    pub demand : Demand c K (answer dev fig wst ps K)
    demand = ⊎_elim some empty (le_or_lt 1 (length ps))
      where
        empty : length ps < 1 → Demand c K (answer dev fig wst ps K)
        empty h = rw (answer_none dev fig wst K ps (omega arith)) (none (λ p k. omega (arith, mem_length (ok.lists p k))))

        within : 1 ≤ length ps → J ≤ K → Demand c K (answer dev fig wst ps K)
        within h few =
            let stop = needed_stops dev fig ps h in
            let o = choice_chosen fig ps J stop.one_at_least h in
            rw (answer_settled dev fig wst K ps stop few o) (closed (when_settled h few o))

        beyond : 1 ≤ length ps → K < J → Demand c K (answer dev fig wst ps K)
        beyond h many =
            let o = choice_chosen fig ps K K-lo h in
            rw (answer_open dev fig wst K ps many o) (unsettled (when_open many o))

        some : 1 ≤ length ps → Demand c K (answer dev fig wst ps K)
        some h = ⊎_elim (within h) (beyond h) (le_or_lt J K)

-- ---- "exactly": of an answer for which the demand holds, its kind says which of the three conditions holds, and each condition says the kind
pub data IsSettled : Answer → Type 0 where
  is_settled : {p : Route} {f w n : ℕ} → IsSettled (settled p f w n)

pub data IsOpen : Answer → Type 0 where
  is_open : {p : Route} {f w n b : ℕ} → IsOpen (left_open p f w n b)

module _ {c : Contest} {K : ℕ} where
  -- (a) "no path" comes exactly if there is no path
  pub no_path_exactly : {a : Answer} → Demand c K a
      → (a ≡ no_path → (p : Route) → c.admits p → ⊥)
      × (((p : Route) → c.admits p → ⊥) → a ≡ no_path)
  no_path_exactly (none h) = (λ _. h, λ _. refl)
  no_path_exactly (closed {p} d) = (λ e q k. let z : ◌≡◌ {A = ℕ} 0 1 = cc in omega arith, λ h. absurd (h p d.is_path))
  no_path_exactly (unsettled {p} d) = (λ e q k. let z : ◌≡◌ {A = ℕ} 0 1 = cc in omega arith, λ h. absurd (h p d.is_path))

  -- (b) settled exactly if the stopping rule needs at most K paths; where it needs a number of paths there is one
  pub settled_exactly : {a : Answer} → ((p : Route) → p ∈ c.ranking → c.admits p) → Demand c K a
      → (IsSettled a → (j : ℕ) × Needs c j × (j ≤ K))
      × ((j : ℕ) → Needs c j → j ≤ K → IsSettled a)
  settled_exactly listed (none h) = (λ i. elim i [ ], λ j n l. absurd (h _ (listed _ (get_or_mem c.ranking [] 0 (omega (arith, n.one_at_least, n.all_at_most))))))
  settled_exactly listed (closed {n} d) = (λ _. (n, d.count_needed, d.count_within), λ j n l. is_settled)
  settled_exactly listed (unsettled d) = (λ i. elim i [ ], λ j n l. absurd (omega (arith, d.needs_more j n)))

  -- (c) open exactly if it needs more than K
  pub open_exactly : {a : Answer} → Demand c K a
      → (IsOpen a → ((p : Route) × c.admits p) × ((j : ℕ) → Needs c j → K < j))
      × ((p : Route) → c.admits p → ((j : ℕ) → Needs c j → K < j) → IsOpen a)
  open_exactly (none h) = (λ i. elim i [ ], λ p k more. absurd (h p k))
  open_exactly (closed {n} d) = (λ i. elim i [ ], λ p k more. absurd (omega (arith, more n d.count_needed, d.count_within)))
  open_exactly (unsettled {p} d) = (λ _. ((p, d.is_path), d.needs_more), λ p k more. is_open)
