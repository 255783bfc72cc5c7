-- What the layers above learn of a ranking: how to meet its requirements, what the ranked entries are, and, for Robust, what is left
-- when the next candidate reaches the limit or there is none. Assumes nothing.
use Prim.Native.Nat.{ℕ, ◌+◌, ◌≤◌, ◌<◌}
use native.Mathlib.Omega.{arith}
use mathlib.Core.Path.{◌≡◌, refl, sym, ◌∙◌, ap, subst}
use mathlib.Core.Bool.{true, Bool, false}
use mathlib.Core.Logic.{◌⊎◌}
use mathlib.Core.List.{List, [], map}
use lib.ListN.{length, take, get_or, length-take, drop_of_length-le}
use lib.Seq.{get_or-take}
use Rattle.terms.specs.Lists.{◌∈◌, elem}
use Rattle.terms.specs.Network.{Graph}
use Rattle.terms.specs.Paths.{Route, cost}
use Rattle.terms.specs.Ranking.{before, ranked}
use Rattle.terms.proofs.RankingLaws.{before_cost}
use Rattle.star.specs.Layout.{graph_of, Holds}
use Rattle.labels.specs.Labels.{Least}
use Rattle.candidates.specs.Slots.{Entry, none, entry_at, entries}
use Rattle.candidates.specs.Routes.{routes}
use Rattle.candidates.proofs.EntryLaws.{length_entries, entries_at}
use Rattle.candidates.proofs.RouteLaws.{length_routes}
use Rattle.branching.specs.Branches.{Branch}
use Rattle.branching.specs.Found.{Ends}
use Rattle.ranking.specs.Ranking.{Problem, Ranked}
use Rattle.ranking.specs.Search.{Search}
use Rattle.ranking.specs.State.{candidate, candidates_from, Beyond, Entered, Searching}
use Rattle.branching.proofs.FlagLaws.{flags_none}
use Rattle.ranking.proofs.EnterLaws.{problem_within}
use Rattle.branching.proofs.NetworkLaws.{graph_small, graph_exact}
use Rattle.ranking.proofs.SearchLaws.{others_lost, rest_ranked}
use Rattle.ranking.proofs.StateLaws.{entry_cost, entry_route, length_done, in_front, search_rank}

-- ---- a graph with labels that bar no node
pub problem_of : {n s t : ℕ} {star ws overall : List ℕ} {bars : List Bool} → Holds n star ws → Ends (n + 1) s t → ((x : ℕ) → get_or bars x false ≡ false) → length overall ≡ n + 1 → Least (graph_of star ws) bars t overall
    → Problem n s t (graph_of star ws) overall
unfolding elem
problem_of H e none long l = record {
  start_from = e.start_from;
  start_to = omega (arith, e.start_place);
  goal_to = omega (arith, e.goal_place);
  apart = e.apart;
  consistent = (graph_exact H refl long l {q = []} (flags_none none) refl).consistent;
  small = graph_small H refl long l;
}

-- ---- the entry at a place of the ranked list
module _ {n M : ℕ} {g : Graph} {s t : ℕ} {w w' : List ℕ} {count : ℕ} (R : Ranked n M g s t w w' count) where
  pub ranked_count : count ≡ length (take M (ranked n g s t))
  ranked_count = sym (sym (ap length R.paths) ∙ length_routes s (entries n w' count) ∙ length_entries n w' count)

  module _ (p : ℕ) (h : p < count) where
    pub ranked_cost : (entry_at n w' p).cost ≡ cost g (get_or (take M (ranked n g s t)) p [])
    ranked_cost = ap (λ (e : Entry). e.cost) (sym (entries_at n w' count p h)) ∙ entry_cost R.entered p ∙ ap (λ (l : List Route). cost g (get_or l p [])) R.paths

-- ---- while the search goes on
module _ {n : ℕ} {g : Graph} {s t M limit : ℕ} {E : List Entry} {j : ℕ} (T : Entered n g s E j) where
  -- the ranked paths are the first of the ranked list
  pub ranked_so_far : {waiting : List Branch} → Searching n g s t M limit E j waiting → take j (routes s E) ≡ take j (ranked n g s t)
  ranked_so_far S = S.beginning ∙ ap (λ k. take k (ranked n g s t)) (length_done T)

module _ {n s t : ℕ} {star ws overall : List ℕ} (H : Holds n star ws) (P : Problem n s t (graph_of star ws) overall) {M limit : ℕ} {E : List Entry} {j : ℕ} (T : Entered n (graph_of star ws) s E j)
    (S : Searching n (graph_of star ws) s t M limit E j []) where
  abbrev g : Graph
  g = graph_of star ws

  close : (p q : Route) → before g p q ≡ true → Beyond g limit p → Beyond g limit q
  close p q b h = omega (arith, before_cost g p q b)

  -- the next candidate costs less than the limit: it is the next of the ranked list
  pub next_ranked : j < length E → (get_or E j none).cost < limit → get_or (routes s E) j [] ≡ get_or (ranked n g s t) j []
  next_ranked b u =
      let S' = search_rank (problem_within H P) P.start_from P.start_to T S b u in
      let z = S'.beginning in
      sym (get_or-take (j + 1) (routes s E) j [] (omega arith)) ∙ ap (λ (l : List Route). get_or l j []) z ∙ get_or-take (length (take (j + 1) (routes s E))) (ranked n g s t) j [] (omega (arith, length-take (j + 1) (routes s E), length_routes s E))

  -- it costs the limit or more: so does each path that is not ranked
  pub rest_beyond : j < length E → limit ≤ (get_or E j none).cost → (p : Route) → p ∈ ranked n g s t → (p ∈ take j (routes s E)) ⊎ Beyond g limit p
  unfolding candidate
  rest_beyond b h =
      others_lost n g s t (problem_within H P) P.start_from P.start_to M (Beyond g limit) close (in_front (problem_within H P) P.start_from P.start_to T S b) (omega (arith, entry_cost T j, ap (cost g) (entry_route T j b)))

  -- there is none, but a place for one: the same
  pub rest_none : length E ≡ j → j < M → (p : Route) → p ∈ ranked n g s t → (p ∈ take j (routes s E)) ⊎ Beyond g limit p
  unfolding candidates_from
  rest_none e h =
      rest_ranked n g s t (problem_within H P) P.start_from P.start_to M (Beyond g limit) close
      (subst (λ l. Search n g s t M (Beyond g limit) (take j (routes s E)) l []) (ap (map (candidate s E)) (drop_of_length-le E {i = j} (omega arith))) S) (omega (arith, length_done T))
