-- The search as paths are counted: the next path, what it leaves, and the answer at the end. Assumes nothing.
use Prim.Native.Nat.{ℕ, ◌+◌, ◌-◌, ◌≤◌, ◌<◌, max}
use native.Mathlib.Omega.{arith}
use native.Mathlib.Nat.{eq-or-lt_of_le}
use mathlib.Core.Path.{◌≡◌, refl, sym, ◌∙◌, ap, subst}
use Rattle.std.specs.Prelude.{Option, Some, None, IsSome, IsNone}
use Rattle.std.proofs.lemmas.Option.{none-some, same_Some}
use mathlib.Core.Logic.{◌⊎◌, inl, inr, ⊎_elim}
use mathlib.Core.List.{List, []}
use lib.ListN.{length, take, get_or, length-take}
use lib.Seq.{get_or-take}
use Rattle.terms.specs.Lists.{◌∈◌}
use Rattle.terms.specs.Network.{Graph}
use Rattle.terms.specs.Paths.{Route, Path, cost}
use Rattle.terms.specs.Ranking.{ranked}
use Rattle.terms.specs.Robust.{settled, left_open, answer}
use Rattle.terms.proofs.ListLaws.{clash, get_or_mem}
use Rattle.terms.proofs.RankingLaws.{ranked_rising, ranked_path}
use Rattle.star.specs.Layout.{graph_of, Holds}
use Rattle.labels.specs.Labels.{far}
use Rattle.candidates.specs.Slots.{Entry, none, entry_at, entries}
use Rattle.candidates.specs.Routes.{routes, route_at, Rooted}
use Rattle.candidates.proofs.EntryLaws.{kept_readable, length_entries, entries_at}
use Rattle.candidates.proofs.RootedLaws.{family_rooted, route_at_entries}
use Rattle.candidates.proofs.RouteLaws.{length_routes}
use Rattle.ranking.specs.Ranking.{Problem, Due, Changed, Begins}
use Rattle.exits.specs.Small.{longest}
use Rattle.ranking.specs.State.{Beyond, Searching}
use Rattle.ranking.proofs.EnterLaws.{problem_within, path_small}
use Rattle.ranking.proofs.RankedLaws.{search_less, due_next}
use Rattle.ranking.proofs.ResultLaws.{ranked_so_far, next_ranked, rest_beyond, rest_none}
use Rattle.ranking.proofs.StateLaws.{entry_cost, length_done, next_is_path, search_rank}
use Rattle.choosing.specs.Leader.{Leads, Leading}
use Rattle.choosing.specs.Counting.{Counting, Outlook}
use Rattle.choosing.specs.declared.counting.Leader.{Leader}
use Rattle.choosing.proofs.LeaderLaws.{going_none, going_more, settled_rest, open_answer}

-- what it says of the next path: there is one that costs less
pub outlook_some : {n count j low figure : ℕ} {w : List ℕ} {z : Option ℕ} → Outlook n w count j low figure z → IsSome z → (j < count) × ((entry_at n w j).cost < low + figure)
outlook_some (Outlook.none_left h) e = clash e refl
outlook_some (Outlook.late h k) e = clash e refl
outlook_some (Outlook.more _ h k l) e = (h, k)

-- or the rule holds
pub outlook_none : {n count j low figure : ℕ} {w : List ℕ} {z : Option ℕ} → Outlook n w count j low figure z → IsNone z → Outlook n w count j low figure None
outlook_none (Outlook.none_left h) e = Outlook.none_left h
outlook_none (Outlook.late h k) e = Outlook.late h k
outlook_none (Outlook.more _ h k l) e = clash refl e

module _ {n s t : ℕ} {star ws overall : List ℕ} (H : Holds n star ws) (P : Problem n s t (graph_of star ws) overall) {low : ℕ} (no_less : (p : Route) → Path (graph_of star ws) s t p → low ≤ cost (graph_of star ws) p) where
  abbrev g : Graph
  g = graph_of star ws

  module _ {M : ℕ} {fig wst : Route → ℕ} {w : List ℕ} {count j : ℕ} {l : Leader} (C : Counting n M (graph_of star ws) s t low fig wst w count j l) where
    abbrev E : List Entry
    E = entries n w count

    long : length (entries n w count) ≡ count
    long = length_entries n w count

    entry_is : j < count → get_or (entries n w count) j none ≡ entry_at n w j
    entry_is h = entries_at n w count j h

    -- ---- the first candidate costs less than the limit
    module _ (due : (j < count) × ((entry_at n w j).cost < low + l.figure)) where
      next_cheap : (get_or (entries n w count) j none).cost < low + l.figure
      next_cheap = rw (entry_is due.0) due.1

      next_due : Due n (graph_of star ws) s t M (low + l.figure) (entries n w count) j
      next_due = record { inside = omega (arith, long, due.0); cheap = next_cheap; search = C.search }

      -- it is the next of the ranked list
      pub next_within : j < length (ranked n (graph_of star ws) s t)
      next_within =
          let S = search_rank (problem_within H P) P.start_from P.start_to C.filled.entered C.search next_due.inside next_cheap in
          omega (arith, due.0, ap length S.beginning, length-take (j + 1) (routes s E), length_routes s E, long, length-take (length (take (j + 1) (routes s E))) (ranked n g s t))

      pub next_is : get_or (ranked n (graph_of star ws) s t) j [] ≡ route_at s n w j
      next_is = sym (next_ranked H P C.filled.entered C.search next_due.inside next_cheap) ∙ sym (route_at_entries s n w j count due.0)

      pub next_path : Path (graph_of star ws) s t (route_at s n w j)
      next_path = subst (Path g s t) next_is (ranked_path n g s t (get_or_mem (ranked n g s t) [] j next_within))

      next_cost : (entry_at n w j).cost ≡ cost (graph_of star ws) (get_or (ranked n (graph_of star ws) s t) j [])
      next_cost = ap (λ (e : Entry). e.cost) (sym (entry_is due.0)) ∙ entry_cost C.filled.entered j ∙ ap (cost g) (sym (route_at_entries s n w j count due.0) ∙ sym next_is)

      -- its deviation is below the least figure, so the rule does not hold before it
      next_below : cost (graph_of star ws) (get_or (ranked n (graph_of star ws) s t) j []) - low < l.figure
      next_below = omega (arith, no_less _ next_path, ap (cost g) next_is, next_cost, due.1)

      -- ---- it is counted, and ranked with a limit that it does not reach
      pub split_due : {figure' limit : ℕ} → figure' ≤ l.figure → limit ≡ max (low + figure') ((entry_at n w j).cost + 1) → Due n (graph_of star ws) s t M limit (entries n w count) j
      split_due {limit = limit} less limit_is =
          record { inside = omega (arith, long, due.0); cheap = rw (entry_is due.0) (omega (arith, limit_is)); search = search_less n s t (entries n w count) j limit (omega (arith, limit_is, due.1, less)) C.search }

      pub counted_on : {l' : Leader} {limit : ℕ} {w' : List ℕ} {count' : ℕ} → limit ≡ max (low + l'.figure) ((entry_at n w j).cost + 1) → Leading fig wst (ranked n (graph_of star ws) s t) (j + 1) l'.place l'.figure l'.worst
          → Changed n M (graph_of star ws) s (j + 1) w count w' count' → Searching n (graph_of star ws) s t M limit (entries n w' count') (j + 1) [] → Counting n M (graph_of star ws) s t low fig wst w' count' (j + 1) l'
      counted_on {l'} {limit} {w'} {count'} limit_is L B S = record {
        filled = record { some = C.filled.some; few = C.filled.few; kept = B.kept; entered = B.entered };
        search = search_less n s t (entries n w' count') (j + 1) (low + l'.figure) (omega (arith, limit_is)) S;
        first = λ z. absurd (omega arith);
        leading = L;
        going = going_more j C.leading next_below C.going;
      }

    -- ---- the first candidate is a path, so it costs low at least
    candidate_path : j < count → Path (graph_of star ws) s t (get_or (routes s (entries n w count)) j [])
    candidate_path h = next_is_path (problem_within H P) P.start_from P.start_to C.filled.entered C.search (omega (arith, long))

    candidate_cost : j < count → (entry_at n w j).cost ≡ cost (graph_of star ws) (get_or (routes s (entries n w count)) j [])
    candidate_cost h = ap (λ (e : Entry). e.cost) (sym (entry_is h)) ∙ entry_cost C.filled.entered j

    pub candidate_most : j < count → low ≤ (entry_at n w j).cost
    candidate_most h = omega (arith, candidate_cost h, no_less _ (candidate_path h))

    pub candidate_least : (top : ℕ) → ((p : Route) → Path (graph_of star ws) s t p → cost (graph_of star ws) p ≤ top) → j < count → (entry_at n w j).cost ≤ top
    candidate_least top small h = omega (arith, candidate_cost h, small _ (candidate_path h))

    pub counted_inside : j ≤ count
    counted_inside = omega (arith, C.filled.entered.border, long)

    -- ---- the count ends
    -- some path is counted: where the rule holds, or where as many are as are wanted
    pub counted_some : {wanted : ℕ} {z : Option ℕ} → 1 ≤ wanted → Outlook n w count j low l.figure z → (IsSome z → wanted ≤ j) → 1 ≤ j
    counted_some {wanted} some o all = ⊎_elim (λ e. absurd (nothing (sym e) o all (C.first (sym e)))) (λ h. h) (eq-or-lt_of_le {n = 0} {m = j} (omega arith))
      where
        nothing : {z : Option ℕ} → j ≡ 0 → Outlook n w count j low l.figure z → (IsSome z → wanted ≤ j) → (j < count) × ((entry_at n w j).cost < low + l.figure) → ⊥
        nothing e (Outlook.none_left y) all f = omega (arith, f.0)
        nothing e (Outlook.late h k) all f = omega (arith, f.1)
        nothing e (Outlook.more _ h k y) all f = omega (arith, all refl)

    module _ (some : 1 ≤ j) where
      pub leads : Leads fig wst (ranked n (graph_of star ws) s t) j l.place l.figure l.worst
      leads = C.leading.leads some

      same_so_far : take j (routes s (entries n w count)) ≡ take j (ranked n (graph_of star ws) s t)
      same_so_far = ranked_so_far C.filled.entered C.search

      all_inside : j ≤ length (ranked n (graph_of star ws) s t)
      all_inside = omega (arith, ap length same_so_far, length_done C.filled.entered, length-take j (ranked n g s t))

      leader_inside : l.place < count
      leader_inside = omega (arith, leads.counted, C.filled.entered.border, long)

      -- the leader's route, and its figure
      pub leader_rooted : Rooted n w l.place
      leader_rooted = family_rooted l.place leader_inside (kept_readable C.filled.kept) C.filled.entered.family

      leader_is : get_or (ranked n (graph_of star ws) s t) l.place [] ≡ route_at s n w l.place
      leader_is =
          sym (get_or-take j (ranked n g s t) l.place [] leads.counted) ∙ ap (λ (r : List Route). get_or r l.place []) (sym same_so_far)
          ∙ get_or-take j (routes s E) l.place [] leads.counted ∙ sym (route_at_entries s n w l.place count leader_inside)

      pub leader_small : (top : ℕ) → ((p : Route) → Path (graph_of star ws) s t p → fig p ≤ top) → l.figure ≤ top
      leader_small top small = omega (arith, leads.figure_is, small _ (ranked_path n g s t (get_or_mem (ranked n g s t) [] l.place leads.within)))

      -- all other paths come too late
      late_answer : (K : ℕ) → j ≤ K → ((p : Route) → p ∈ ranked n (graph_of star ws) s t → (p ∈ take j (routes s (entries n w count))) ⊎ Beyond (graph_of star ws) (low + l.figure) p)
          → answer (λ p. cost (graph_of star ws) p - low) fig wst (ranked n (graph_of star ws) s t) K ≡ settled (route_at s n w l.place) l.figure l.worst j
      late_answer K upto rest =
          settled_rest low (ranked_rising n g s t) leads C.going all_inside K upto (λ p m. ⊎_elim (λ k. inl (subst (λ (r : List Route). p ∈ r) same_so_far k)) inr (rest p m))
          ∙ ap (λ (p : Route). settled p l.figure l.worst j) leader_is

      pub settled_end : {K : ℕ} {z : Option ℕ} → M ≡ K + 1 → j ≤ K → Outlook n w count j low l.figure z → z ≡ None
          → answer (λ p. cost (graph_of star ws) p - low) fig wst (ranked n (graph_of star ws) s t) K ≡ settled (route_at s n w l.place) l.figure l.worst j
      settled_end {K} m upto (Outlook.none_left z) e = late_answer K upto (rest_none H P C.filled.entered C.search (omega (arith, long)) (omega arith))
      settled_end {K} m upto (Outlook.late h k) e = late_answer K upto (rest_beyond H P C.filled.entered C.search (omega (arith, long)) (rw (entry_is h) k))
      settled_end {K} m upto (Outlook.more _ h k z) e = absurd (none-some _ (sym e))

      pub open_end : {K floor : ℕ} {z : Option ℕ} → j ≡ K → Outlook n w count j low l.figure z → z ≡ Some floor
          → answer (λ p. cost (graph_of star ws) p - low) fig wst (ranked n (graph_of star ws) s t) K ≡ left_open (route_at s n w l.place) l.figure l.worst j floor
      open_end {K} at (Outlook.none_left z) e = absurd (none-some _ e)
      open_end {K} at (Outlook.late h k) e = absurd (none-some _ e)
      open_end {K} {floor} at (Outlook.more found h k z) e =
          ap (answer (λ p. cost g p - low) fig wst (ranked n g s t)) (sym at)
          ∙ open_answer low (ranked_rising n g s t) leads C.going all_inside (next_within (h, k)) (rw (← next_cost (h, k)) k) (omega (arith, no_less _ (next_path (h, k)), ap (cost g) (next_is (h, k))))
          ∙ ap (λ (p : Route). left_open p l.figure l.worst j (cost g (get_or (ranked n g s t) j []) - low)) leader_is ∙ ap (λ (f : ℕ). left_open (route_at s n w l.place) l.figure l.worst j f) (ap (λ (c : ℕ). c - low) (sym (next_cost (h, k))) ∙ sym z ∙ same_Some _ _ e)

  -- ---- it begins
  module _ (exists : 1 ≤ length (ranked n (graph_of star ws) s t)) where
    first_path : Path (graph_of star ws) s t (get_or (ranked n (graph_of star ws) s t) 0 [])
    first_path = ranked_path n g s t (get_or_mem (ranked n g s t) [] 0 exists)

    pub low_small : low ≤ longest
    low_small = omega (arith, no_less _ first_path, path_small H P first_path)

    module _ {M : ℕ} {w w' : List ℕ} {count : ℕ} (B : Begins n M (graph_of star ws) s t w w' count) where
      some_entry : 0 < count
      some_entry = ⊎_elim (λ z. absurd (none z)) (λ h. h) (eq-or-lt_of_le {n = 0} {m = count} (omega arith))
        where
          none : 0 ≡ count → ⊥
          none z =
              ⊎_elim (λ m. elim m [ ]) (λ b. omega (arith, path_small H P first_path))
              (rest_none H P B.filled.entered B.search (length_entries n w' count ∙ sym z) (omega (arith, B.filled.some)) (get_or (ranked n g s t) 0 []) (get_or_mem (ranked n g s t) [] 0 exists))

      pub counting_none : (fig wst : Route → ℕ) → ((p : Route) → Path (graph_of star ws) s t p → fig p < far - low)
          → Counting n M (graph_of star ws) s t low fig wst w' count 0 (record { place = 0; figure = far - low; worst = 0 })
      counting_none fig wst small = record {
        filled = B.filled;
        search = subst (λ (limit : ℕ). Searching n g s t M limit (entries n w' count) 0 []) whole B.search;
        first = λ z. (some_entry, omega (arith, whole, ap (λ (e : Entry). e.cost) (entries_at n w' count 0 some_entry), (due_next H P B.filled some_entry B.search).cheap));
        leading = record { above_all = λ z i h. small _ (ranked_path n g s t (get_or_mem (ranked n g s t) [] i h)); leads = λ h. absurd (omega arith) };
        going = going_none;
      }
        where
          whole : far ≡ low + (far - low)
          whole = omega (arith, low_small)
