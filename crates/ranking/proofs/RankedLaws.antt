-- The ranked list: how the ranking begins, goes on and ends. Assumes nothing.
use mathlib.Core.Bool.{Bool, true}
use Prim.Native.Nat.{ℕ, ◌+◌, ◌*◌, ◌≤◌, ◌<◌}
use native.Mathlib.Omega.{arith}
use mathlib.Core.Path.{◌≡◌, refl, sym, ◌∙◌, ap, ap₂, subst}
use mathlib.Core.Logic.{inl, inr}
use mathlib.Core.List.{List, [], ◌∷◌, map, reverse_aux}
use lib.ListN.{length, take, drop, set, drop_of_length-le}
use lib.Seq.{take_all}
use Rattle.terms.specs.Lists.{numbers}
use Rattle.terms.specs.Network.{Graph}
use Rattle.terms.specs.Paths.{cost}
use Rattle.terms.specs.Ranking.{ranked}
use Rattle.terms.proofs.RankingLaws.{ranked_path}
use Rattle.star.specs.Layout.{graph_of, Holds}
use Rattle.labels.specs.Labels.{far}
use Rattle.candidates.specs.Slots.{Entry, entries}
use Rattle.candidates.specs.Keeping.{Kept}
use Rattle.candidates.specs.Routes.{routes, routes_onto}
use Rattle.candidates.proofs.EntryLaws.{length_entries}
use Rattle.candidates.proofs.RouteLaws.{beginning_start, length_routes}
use Rattle.candidates.proofs.BarLaws.{barred_start}
use Rattle.branching.specs.Branches.{Branch, branch, In, everything}
use Rattle.exits.specs.Flags.{Flagged}
use Rattle.branching.specs.Found.{Idle, Ends}
use Rattle.ranking.specs.Ranking.{Problem, Filled, Deviation, Changed, Settled, Due, Space, Blank, Begins, Stage, Ranked}
use Rattle.ranking.specs.Search.{Search}
use Rattle.ranking.specs.State.{branch_of, candidate, candidates_from, Beyond, Entered, Searching, parts_of, taking_over}
use Rattle.branching.proofs.AllLaws.{start_begun, start_path, cost_start}
use Rattle.branching.proofs.FlagLaws.{flags_none}
use Rattle.ranking.proofs.EnterLaws.{problem_within, path_small}
use Rattle.ranking.proofs.PoolLaws.{lose}
use Rattle.ranking.proofs.StateLaws.{entry_cost, entered_rank, next_is_path, search_rank, length_done}
use Rattle.branching.proofs.BranchLaws as branches
use Rattle.ranking.proofs.SearchLaws as search

-- with a smaller limit more paths need not be ranked
pub search_less : (n : ℕ) {g : Graph} (s t : ℕ) {M limit : ℕ} (E : List Entry) (j : ℕ) {waiting : List Branch} (limit' : ℕ) → limit' ≤ limit → Searching n g s t M limit E j waiting → Searching n g s t M limit' E j waiting
search_less n {g} s t {M} {limit} E j limit' h S = lose g (ranked n g s t) (In g s t) M (Beyond g limit) (Beyond g limit') (λ p m k. omega arith) S

-- ---- the beginning: no entries
module _ (n : ℕ) (w : List ℕ) where
  entered_none : (g : Graph) (s : ℕ) → Entered n g s (entries n w 0) 0
  unfolding routes routes_onto entries numbers
  entered_none g s = record {
    family = record { fits = λ p h. absurd (omega arith) };
    by_ranked = record { ranked = λ p h. absurd (omega arith) };
    border = omega arith;
    costs = refl;
  }

module _ {n s t : ℕ} {star ws overall : List ℕ} (H : Holds n star ws) (P : Problem n s t (graph_of star ws) overall) where
  abbrev g : Graph
  g = graph_of star ws

  ends : Ends (n + 1) s t
  ends = record { start_from = P.start_from; start_place = omega (arith, P.start_to); goal_place = omega (arith, P.goal_to); apart = P.apart }

  pub filled_none : {M : ℕ} {w w' : List ℕ} → Space n M w → Kept n M w' 0 → Filled n M g s 0 w' 0
  filled_none {w' = w'} S k = record { some = S.some; few = S.few; kept = k; entered = entered_none n w' g s }

  -- all paths are waiting
  all_branch : (E : List Entry) → branch_of s E (taking_over 1 0) ≡ everything s
  unfolding branch_of
  all_branch E = ap₂ (λ q F. branch q F) (beginning_start s (routes s E) (taking_over 1 0) refl) (barred_start E (taking_over 1 0) refl)

  pub search_none : (M limit : ℕ) (w : List ℕ) → Searching n g s t M limit (entries n w 0) 0 (branch_of s (entries n w 0) (taking_over 1 0) ∷ [])
  unfolding candidates_from entries numbers
  search_none M limit w =
      subst (λ β. Searching n g s t M limit (entries n w 0) 0 (β ∷ [])) (sym (all_branch (entries n w 0))) (search.begin n g s t (problem_within H P) P.start_from P.start_to M (Beyond g limit))

  -- the start is laid out and flagged
  module _ {used bars : List Bool} {path : List ℕ} (B : Blank n used bars path) where
    idle : Idle (length used) used bars
    idle = rw B.used_long B.idle

    places : Ends (length used) s t
    places = rw B.used_long ends

    room : length used ≤ length path + 1
    room = omega (arith, B.used_long, B.path_long)

    pub first_deviation : (w : List ℕ) → Deviation n g s t (entries n w 0) 0 (set used s true) bars (set path 0 s) 0 1 0
    first_deviation w = record {
      begun = rw B.used_long at (start_begun path room idle places);
      taken = start_path path room idle places ∙ sym (beginning_start s (routes s (entries n w 0)) (taking_over 1 0) refl);
      flagged = subst (Flagged bars) (sym (barred_start (entries n w 0) (taking_over 1 0) refl)) (flags_none B.idle.none_barred);
      begins = rw (start_path path room idle places) (branches.beginning_start P.apart);
      fits = record {
        some = omega arith;
        short = omega (arith, P.start_from, P.start_to);
        nodes = λ i h. absurd (omega arith);
        from_start = λ z. refl;
        known = omega arith;
        leaves = λ r z. absurd (omega arith);
        leaves_inside = λ r z. absurd (omega arith);
      };
      costs = sym (ap (cost g) (start_path path room idle places) ∙ cost_start g s);
      small = omega arith;
    }

  pub begun : {M count' : ℕ} {w w₁ w' : List ℕ} → Space n M w → Kept n M w₁ 0 → drop (M * (n + 16)) w₁ ≡ drop (M * (n + 16)) w → Changed n M g s 0 w₁ 0 w' count'
      → Settled n g s t M far (entries n w₁ 0) 0 (branch_of s (entries n w₁ 0) (taking_over 1 0)) (entries n w' count') → Begins n M g s t w w' count'
  begun {M} {w₁ = w₁} S k b C T = record {
    filled = record { some = S.some; few = S.few; kept = C.kept; entered = C.entered };
    search = T.goes_on [] (search_none M far w₁);
    beyond = C.beyond ∙ b;
  }

  -- ---- the path at place r is ranked
  module _ {M r : ℕ} {w : List ℕ} {count : ℕ} (F : Filled n M g s r w count) (inside : r < count) (S : Searching n g s t M far (entries n w count) r []) where
    pub due_next : Due n g s t M far (entries n w count) r
    due_next =
        let h : r < length (entries n w count) = omega (arith, length_entries n w count) in
        record { inside = h; cheap = omega (arith, entry_cost F.entered r, path_small H P (next_is_path (problem_within H P) P.start_from P.start_to F.entered S h)); search = S }

    -- the last that is wanted
    pub last_changed : Changed n M g s (r + 1) w count w count
    last_changed = record { kept = F.kept; entered = entered_rank F.entered due_next.inside; ranked_same = refl; beyond = refl }

    pub last_stage : r + 1 ≡ M → Stage n g s t M (entries n w count) (r + 1)
    last_stage e =
        Stage.full e (reverse_aux (parts_of s (entries n w count) r) []) (search_rank (problem_within H P) P.start_from P.start_to F.entered S due_next.inside due_next.cheap)

  -- ---- the end
  module _ {M j : ℕ} {w' : List ℕ} {count : ℕ} (F : Filled n M g s j w' count) where
    -- while there are candidates, no branch is waiting
    pub stage_going : j < count → Stage n g s t M (entries n w' count) j → Searching n g s t M far (entries n w' count) j []
    stage_going h (Stage.going S) = S
    stage_going h (Stage.full e _ S) = absurd (omega (arith, F.kept.upto))

    -- a path costs less than the mark, so none is lost
    none_lost : {waiting : List Branch} → Searching n g s t M far (entries n w' count) j waiting → Search n g s t M (λ p. ⊥) (take j (routes s (entries n w' count))) (candidates_from s (entries n w' count) j) waiting
    none_lost S = lose g (ranked n g s t) (In g s t) M (Beyond g far) (λ p. ⊥) (λ p m h. omega (arith, path_small H P (ranked_path n g s t m))) S

    module _ (e : j ≡ count) where
      done_all : take j (routes s (entries n w' count)) ≡ routes s (entries n w' count)
      done_all = take_all j (routes s (entries n w' count)) (omega (arith, length_routes s (entries n w' count), length_entries n w' count))

      no_candidates : candidates_from s (entries n w' count) j ≡ []
      unfolding candidates_from
      no_candidates = ap (map (candidate s (entries n w' count))) (drop_of_length-le (entries n w' count) {i = j} (omega (arith, length_entries n w' count)))

      all_done : Stage n g s t M (entries n w' count) j → routes s (entries n w' count) ≡ take M (ranked n g s t)
      all_done (Stage.going S) =
          sym done_all ∙ search.rank_result n g s t (problem_within H P) P.start_from P.start_to M (λ p. ⊥) (λ p q b l. l) (λ p l. l) (none_lost S) (inr (no_candidates, refl))
      all_done (Stage.full z _ S) =
          sym done_all ∙ search.rank_result n g s t (problem_within H P) P.start_from P.start_to M (λ p. ⊥) (λ p q b l. l) (λ p l. l) (none_lost S) (inl (length_done F.entered ∙ z))

      pub all_ranked : {w : List ℕ} → Stage n g s t M (entries n w' count) j → drop (M * (n + 16)) w' ≡ drop (M * (n + 16)) w → Ranked n M g s t w w' count
      all_ranked T b = record { kept = F.kept; entered = rw e at F.entered; paths = all_done T; beyond = b }
