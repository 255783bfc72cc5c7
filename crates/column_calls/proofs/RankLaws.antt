-- Rank: what its rows say where none applies, and what it writes. Assumes nothing.
use Prim.Native.Nat.{ℕ, zero, suc, ◌*◌, ◌≤◌, ◌<◌}
use native.Mathlib.Omega.{arith}
use native.Mathlib.Nat.{mul-le-mul_right, eq-or-lt_of_le}
use mathlib.Core.Path.{◌≡◌, refl, sym, ◌∙◌, ap, ap₂, subst}
use mathlib.Core.Logic.{⊎_elim}
use mathlib.Core.List.Memᴰ
use mathlib.Core.List.{List, [], ◌∷◌, ◌++◌, map}
use lib.ListN.{length, get_or, take, drop, length-take, length-drop, length-append, length-map}
use Rattle.terms.specs.Lists.{◌∈◌}
use Rattle.terms.specs.Network.{Graph, Net, column}
use Rattle.terms.specs.Paths.{Route, Path, cost}
use Rattle.terms.specs.Ranking.{ranked}
use Rattle.terms.proofs.RankingLaws.{ranked_path, path_ranked}
use Rattle.terms.proofs.ListLaws.{mem_length, take_mem, get_or_mem}
use Rattle.star.specs.Layout.{graph_of}
use Rattle.labels.specs.Labels.{far, Least}
use Rattle.candidates.specs.Slots.{Entry, entries, entry_at}
use Rattle.candidates.specs.Routes.{routes}
use Rattle.listing.specs.Rows.{rows_of}
use Rattle.image.specs.Outcome.{sound, fault, ◌then◌, after}
use Rattle.image.specs.Layout.{net_of}
use Rattle.image.specs.Calls.{image_fault}
use Rattle.image.proofs.NetworkLaws.{accepted_network}
use Rattle.image.proofs.OutcomeLaws.{then_fault, then_next, then_sound, after_sound}
use Rattle.branching.specs.Branches.{everything}
use Rattle.branching.specs.Found.{FirstFound}
use Rattle.std.specs.Prelude.{Option}
use Rattle.branching.specs.declared.first.Tail.{Tail}
use Rattle.ranking.specs.Ranking.{Ranked}
use Rattle.ranking.proofs.ResultLaws.{ranked_count, ranked_cost}
use Rattle.terms.proofs.PathLaws.{column_within}
use Rattle.outcomes.specs.Calls.{ranking_rows, room_row, path_row, rank_rows, rank_of, rank_rows_of, rank_costs_of}
use Rattle.loading.specs.Accepted.{InColumn, Ends}
use Rattle.loading.specs.Loaded.{Loaded}
use Rattle.loading.proofs.LoadLaws.{loaded_least}
use Rattle.column_calls.specs.Slices.{ListSlices}
use Rattle.outcomes.proofs.CostLaws.{column_cost_le}
use Rattle.outcomes.proofs.RowLaws.{SearchSound, RankingSound, ranking_sound, too_short, long_enough, roomy}
use Rattle.outcomes.proofs.WorkLaws.{slots_fit}
use Rattle.outcomes.proofs.ShortestLaws.{path_none, some_path}

-- ---- the rows before 15
module _ (b : List ℕ) (u s t K rows costs work : ℕ) (first : ranking_rows b u s t K work ≡ sound) (n : ℕ) (nodes_are : n ≡ (net_of b).nodes) where
  next_rows : rank_rows b u s t K rows costs work ≡ (room_row rows (K * n) then room_row costs K)
  unfolding rank_rows
  next_rows = then_next _ first ∙ ap (λ (n : ℕ). room_row rows (K * n) then room_row costs K) (sym nodes_are)

  pub rows_short : rows < K * n → rank_rows b u s t K rows costs work ≡ fault 13 0
  rows_short h = next_rows ∙ then_fault _ (too_short _ _ h)

  module _ (rows_long : K * n ≤ rows) where
    pub costs_short : costs < K → rank_rows b u s t K rows costs work ≡ fault 13 0
    costs_short h = next_rows ∙ then_next _ (long_enough _ _ rows_long) ∙ too_short _ _ h

    pub slices_long : K ≤ costs → rank_rows b u s t K rows costs work ≡ sound
    slices_long h = next_rows ∙ then_next _ (long_enough _ _ rows_long) ∙ long_enough _ _ h

module _ (b : List ℕ) (u s t K : ℕ) (rows costs work : List ℕ) (e : rank_rows b u s t K (length rows) (length costs) (length work) ≡ sound) where
  sound_rows : RankingSound b u s t K (length work)
  unfolding rank_rows
  sound_rows = ranking_sound b u s t K (length work) (then_sound _ _ e).0

  pub rank_sound : SearchSound b u s t
  rank_sound = sound_rows.search

  pub rank_slices : ListSlices (net_of b).nodes K rows costs work
  unfolding rank_rows
  rank_slices =
      let f = then_sound _ _ (then_sound _ _ e).1 in
      record { wanted_from = sound_rows.wanted_from; wanted_to = sound_rows.wanted_to; rows_long = roomy _ _ f.0; costs_long = roomy _ _ f.1; slots_long = omega (arith, slots_fit (net_of b).nodes K (length work) sound_rows.work_long) }

pub slices_for : {n N K : ℕ} {rows costs work : List ℕ} → n ≡ N → ListSlices N K rows costs work → ListSlices n K rows costs work
slices_for {K = K} {rows} {costs} {work} e S = subst (λ n. ListSlices n K rows costs work) (sym e) S

-- ---- there is no path
no_routes : (l : List Route) → ((p : Route) → p ∈ l → ⊥) → l ≡ []
no_routes [] none = refl
no_routes (p ∷ l) none = absurd (none p (Memᴰ.head refl))

-- the label of the start is the mark
pub unreached : (n : ℕ) {g : Graph} (s : ℕ) {t : ℕ} {ls : List ℕ} → Least g [] t ls → get_or ls s 0 ≡ far → ranked n g s t ≡ []
unreached n {g} s {t} l e = no_routes (ranked n g s t) (λ p m. let h = (l.least s p (record { path = ranked_path n g s t m; free = λ x i. refl })).1 in absurd (omega arith))

take_none : (K : ℕ) {l : List Route} → l ≡ [] → take K l ≡ []
take_none zero e = refl
take_none (suc K) e = rw e

module _ (b : List ℕ) (u s t K : ℕ) where
  pub none_of : ranked (net_of b).nodes (column (net_of b) u) s t ≡ [] → rank_of b u s t K ≡ []
  unfolding rank_of
  none_of e = take_none K e

  pub few_listed : length (rank_of b u s t K) ≤ K
  unfolding rank_of
  few_listed = omega (arith, length-take K (ranked (net_of b).nodes (column (net_of b) u) s t))

  -- ---- row 15
  module _ (accepted : image_fault b ≡ sound) (c : InColumn b u) (ends : Ends (net_of b).nodes s t) where
    empty : (l : List Route) → length l ≡ 0 → l ≡ []
    empty [] e = refl
    empty (p ∷ l) e = absurd (omega arith)

    first_of : (K : ℕ) (l : List Route) → 1 ≤ K → take K l ≡ [] → l ≡ []
    first_of zero l h e = absurd (omega arith)
    first_of (suc K) [] h e = refl
    first_of (suc K) (p ∷ l) h e = let z : ◌≡◌ {A = ℕ} 1 0 = ap (λ (x : List Route). length (take 1 x)) e in absurd (omega arith)

    pub none_listed : 1 ≤ K → length (rank_of b u s t K) ≡ 0 → (path_row b u s t ≡ fault 15 0) × (rank_of b u s t K ≡ [])
    unfolding rank_of
    none_listed k e =
        let z = empty (take K (ranked (net_of b).nodes (column (net_of b) u) s t)) e in
        let none = first_of K (ranked (net_of b).nodes (column (net_of b) u) s t) k z in
        (path_none accepted c ends (λ p i. let m = mem_length (path_ranked (net_of b).nodes (column (net_of b) u) s t (column_within (accepted_network b accepted) u) ends.start_in.from ends.start_in.upto i.path) in absurd (omega (arith, ap length none))), z)

    first_path : (K : ℕ) (l : List Route) → 1 ≤ length (take K l) → (p : Route) × (p ∈ l)
    first_path zero l h = absurd (omega arith)
    first_path (suc K) [] h = absurd (omega arith)
    first_path (suc K) (p ∷ l) h = (p, Memᴰ.head refl)

    pub some_listed : 1 ≤ length (rank_of b u s t K) → path_row b u s t ≡ sound
    unfolding rank_of
    some_listed h =
        let p = first_path K (ranked (net_of b).nodes (column (net_of b) u) s t) h in
        some_path accepted c ends (ranked_path (net_of b).nodes (column (net_of b) u) s t p.1)

-- ---- a loaded column
module _ {b : List ℕ} {u s t : ℕ} (accepted : image_fault b ≡ sound) (c : InColumn b u) (ends : Ends (net_of b).nodes s t) {star ws overall : List ℕ} (l : Loaded (net_of b) u t star ws overall) where
  abbrev N : ℕ
  N = (net_of b).nodes

  abbrev all : List Route
  all = ranked N (column (net_of b) u) s t

  pub column_least : Least (column (net_of b) u) [] t overall
  column_least = loaded_least l

  pub none_reached : (K : ℕ) → get_or overall s 0 ≡ far → rank_of b u s t K ≡ []
  none_reached K e = none_of b u s t K (unreached N s column_least e)

  -- the start is reached: there is a path
  pub some_reached : {K : ℕ} → 1 ≤ K → (get_or overall s 0 ≡ far → ⊥) → 1 ≤ length (rank_of b u s t K)
  unfolding rank_of
  some_reached {K} k h =
      let a = column_least.attained s (omega (arith, ends.start_in.upto, l.labels_long)) (⊎_elim (λ e. absurd (h e)) (λ x. x) (eq-or-lt_of_le (column_least.at_most s))) in
      let z = mem_length (path_ranked N (column (net_of b) u) s t (column_within (accepted_network b accepted) u) ends.start_in.from ends.start_in.upto a.1.path) in
      omega (arith, length-take K all)

  -- paths cost less than 32 bits can hold
  pub light_paths : (p : Route) → Path (graph_of star ws) s t p → cost (graph_of star ws) p < 4294967296
  light_paths p h =
      let k = column_cost_le (accepted_network b accepted) c.from c.upto (subst (λ g. Path g s t p) l.graph_is h) in
      omega (arith, ap (λ (g : Graph). cost g p) l.graph_is)

  -- what is listed in the arrays, for a network of n nodes, is listed in the image's column
  module _ {n : ℕ} (n_is : n ≡ N) (K : ℕ) where
    same : take K (ranked n (graph_of star ws) s t) ≡ rank_of b u s t K
    unfolding rank_of
    same = ap₂ (λ n g. take K (ranked n g s t)) n_is l.graph_is

    pub column_count : (r : ℕ) → r ≡ length (take K (ranked n (graph_of star ws) s t)) → r ≡ length (rank_of b u s t K)
    column_count r e = e ∙ ap length same

    pub column_rows : (old : List ℕ) {new : List ℕ} → new ≡ after sound (rows_of n (take K (ranked n (graph_of star ws) s t))) old → new ≡ after sound (rank_rows_of b u s t K) old
    unfolding rank_rows_of
    column_rows old e = e ∙ ap₂ (λ n (l : List Route). after sound (rows_of n l) old) n_is same

    pub column_costs : (old : List ℕ) {new : List ℕ} → new ≡ after sound (map (cost (graph_of star ws)) (take K (ranked n (graph_of star ws) s t))) old → new ≡ after sound (rank_costs_of b u s t K) old
    unfolding rank_costs_of
    column_costs old e = e ∙ ap₂ (λ g (l : List Route). after sound (map (cost g) l) old) l.graph_is same

-- what is found in the slices is found in the image's column
pub found_in_column : {net : Net} {u s t : ℕ} {star ws ls path : List ℕ} {r : Option Tail} → Loaded net u t star ws ls → FirstFound (graph_of star ws) s t (everything s) path r → FirstFound (column net u) s t (everything s) path r
found_in_column {s = s} {t} {path = path} {r} l f = subst (λ g. FirstFound g s t (everything s) path r) l.graph_is f

-- ---- the entries of the workspace, written out
module _ {n K : ℕ} {g : Graph} {s t : ℕ} {w w' : List ℕ} {count : ℕ} (R : Ranked n K g s t w w' count) where
  abbrev E : List Entry
  E = entries n w' count

  pub entry_costs : ((p : Route) → Path g s t p → cost g p < 4294967296) → (p : ℕ) → p < count → (entry_at n w' p).cost < 4294967296
  entry_costs light p h =
      let o = take_mem K (ranked n g s t) (get_or_mem (take K (ranked n g s t)) [] p (omega (arith, ranked_count R))) in
      omega (arith, ranked_cost R p h, light (get_or (take K (ranked n g s t)) p []) (ranked_path n g s t o))

  pub entry_room : {rows costs work : List ℕ} → ListSlices n K rows costs work → (count * n ≤ length rows) × (count ≤ length costs)
  entry_room S =
      let h : count ≤ K = R.kept.upto in
      (omega (arith, S.rows_long, mul-le-mul_right n h), omega (arith, S.costs_long))

  -- the slice keeps its length, so the rows are as long as what they replace
  pub entry_rows : (old : List ℕ) {new : List ℕ} → count * n ≤ length old → length new ≡ length old → new ≡ rows_of n (routes s E) ++ drop (count * n) old → new ≡ after sound (rows_of n (take K (ranked n g s t))) old
  entry_rows old room same e =
      let long : length (rows_of n (routes s E)) ≡ count * n = omega (arith, ap (λ (l : List ℕ). length l) e, length-append (rows_of n (routes s E)) (drop (count * n) old), length-drop (count * n) old) in
      e ∙ ap (λ (x : ℕ). rows_of n (routes s E) ++ drop x old) (sym long) ∙ ap (λ (x : List Route). rows_of n x ++ drop (length (rows_of n x)) old) R.paths ∙ sym (after_sound _ old refl)

  pub entry_costs_out : (old : List ℕ) {new : List ℕ} → new ≡ map (λ e. e.cost) E ++ drop count old → new ≡ after sound (map (cost g) (take K (ranked n g s t))) old
  entry_costs_out old e =
      let same : map (λ e. e.cost) E ≡ map (cost g) (take K (ranked n g s t)) = R.entered.costs ∙ ap (map (cost g)) R.paths in
      let long : length (map (cost g) (take K (ranked n g s t))) ≡ count = length-map (take K (ranked n g s t)) (cost g) ∙ sym (ranked_count R) in
      e ∙ ap₂ (λ (x : List ℕ) (k : ℕ). x ++ drop k old) same (sym long) ∙ sym (after_sound _ old refl)
