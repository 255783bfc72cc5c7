-- Each column's least cost: all columns have the same paths, and the start's label in a column is the least cost of one. Assumes nothing.
use Prim.Native.Nat.{ℕ, ◌+◌, ◌-◌, ◌≤◌, ◌<◌}
use native.Mathlib.Omega.{arith}
use native.Mathlib.Nat.{eq-or-lt_of_le}
use mathlib.Core.Path.{◌≡◌, refl, sym, ◌∙◌, ap, subst}
use mathlib.Core.Bool.{true}
use mathlib.Core.Logic.{⊎_elim}
use mathlib.Core.List.{List, [], map}
use lib.ListN.{length, get_or, set, length-map}
use lib.Seq.{ext_get_or}
use Rattle.terms.specs.Lists.{numbers}
use Rattle.terms.specs.Network.{Graph, linked, column}
use Rattle.terms.specs.Paths.{Route, Path, ByArcs, single, along}
use Rattle.terms.specs.Regret.{best, label, bests}
use Rattle.terms.proofs.ListLaws.{length_numbers, get_or_map_numbers, map_numbers}
use Rattle.terms.proofs.PathLaws.{Within, path_listed}
use Rattle.terms.proofs.RegretLaws.{label_reached}
use Rattle.star.specs.Arcs.{graph, Arcs}
use Rattle.star.specs.Layout.{graph_of, Holds}
use Rattle.labels.specs.Labels.{Least}
use Rattle.star.proofs.ArcLaws.{linked_at, at_linked, graph_within}
use Rattle.labels.proofs.LabelLaws.{reached_best}
use Rattle.star.proofs.Stores.{set_each}
use Rattle.measuring.specs.Columns.{network}
use Rattle.measuring.specs.Networks.{network_of, costs_in, IsColumn}
use Rattle.measuring.specs.declared.columns.Columns.{Columns}
use Rattle.measuring.specs.Bests.{Joined, Labelled}
use Rattle.measuring.proofs.ColumnLaws.{length_columns, held_column, column_arcs, column_holds, column_graph}

-- ---- every arc is open in every column, so all columns have the same paths
by_links : {g g' : Graph} → ((a b : ℕ) → linked g a b ≡ true → linked g' a b ≡ true) → {p : Route} → ByArcs g p → ByArcs g' p
by_links same single = single
by_links same (along {v = a} {h} l b) = along (same a h l) (by_links same b)

module _ {n : ℕ} {ts hs ws ws' : List ℕ} (arcs : Arcs n ts hs ws) (arcs' : Arcs n ts hs ws') where
  same_links : (a b : ℕ) → linked (graph ts hs ws) a b ≡ true → linked (graph ts hs ws') a b ≡ true
  same_links a b l = at_linked arcs' (linked_at arcs a b l).1

  same_paths : {s t : ℕ} {p : Route} → Path (graph ts hs ws) s t p → Path (graph ts hs ws') s t p
  same_paths r = record { from_start = r.from_start; to_goal = r.to_goal; by_arcs = by_links same_links r.by_arcs; loopless = r.loopless }

-- a path in column u is one in column v
pub path_any_column : (c : Columns) {u v : ℕ} → IsColumn c u → IsColumn c v → {a t : ℕ} {p : Route} → Path (column (network_of c) u) a t p → Path (column (network_of c) v) a t p
path_any_column c C D {a} {t} {p} r =
    let here = subst (λ (g : Graph). Path g a t p) (held_column c C) r in
    subst (λ (g : Graph). Path g a t p) (sym (held_column c D)) (same_paths (column_arcs c C) (column_arcs c D) here)

-- ---- the start's label, where a path goes from it, is the least cost of one
module _ {n a t : ℕ} {s ws ls : List ℕ} (H : Holds n s ws) (from : 1 ≤ a) (upto : a ≤ n) (long : length ls ≡ n + 1) (L : Least (graph_of s ws) [] t ls) where
  pub start_best : {p : Route} → Path (graph_of s ws) a t p → get_or ls a 0 ≡ best n (graph_of s ws) a t
  unfolding graph_of
  start_best {p} r = sym (reached_best H.arcs L (λ x _ _. refl) a from upto (omega arith) (L.least a p (record { path = r; free = λ x m. refl })).1)

-- ---- the best of column u
module _ {c : Columns} {a t : ℕ} (J : Joined c a t) {u : ℕ} (C : IsColumn c u) where
  pub joined_path : Path (column (network_of c) u) a t J.route
  joined_path = path_any_column c J.is_column C J.path

  -- it is the start's label, where the column is labelled
  pub best_labelled : {ls : List ℕ} → Labelled c t u ls → get_or ls a 0 ≡ best c.nodes (column (network_of c) u) a t
  best_labelled {ls} L =
      let e = column_graph c C in
      start_best (column_holds c C) J.start_from J.start_to L.long L.least (subst (λ g. Path g a t J.route) e joined_path) ∙ ap (λ g. best c.nodes g a t) (sym e)

  -- it is the least cost of a path with the costs of the column's part
  pub best_part : {x : ℕ} → ((p : Route) → Path (graph_of c.star.now (costs_in c u)) a t p → x ≡ best c.nodes (graph_of c.star.now (costs_in c u)) a t) → x ≡ best c.nodes (column (network_of c) u) a t
  best_part found =
      let e = column_graph c C in
      found J.route (subst (λ g. Path g a t J.route) e joined_path) ∙ ap (λ g. best c.nodes g a t) (sym e)

-- the bests of the network: a path goes from the start in each column
pub held_bests : {c : Columns} {a t : ℕ} → Joined c a t → bests (network_of c) a t ≡ map (λ u. best c.nodes (column (network_of c) u) a t) (numbers 1 c.count)
unfolding bests network
held_bests {c} {a} {t} J =
    ap (λ x. map (λ u. label c.nodes (column (network_of c) u) t a) (numbers 1 x)) (length_columns c.nodes c.arcs c.count c.star.now c.costs.now)
    ∙ map_numbers (λ u. label c.nodes (column (network_of c) u) t a) (λ u. best c.nodes (column (network_of c) u) a t) 1 c.count (λ u lo hi. same u lo (omega arith))
  where
    same : (u : ℕ) → 1 ≤ u → u ≤ c.count → label c.nodes (column (network_of c) u) t a ≡ best c.nodes (column (network_of c) u) a t
    same u lo hi =
        let C : IsColumn c u = record { from = lo; upto = hi } in
        let within = subst (Within c.nodes) (sym (held_column c C)) (graph_within (column_arcs c C)) in
        label_reached c.nodes (column (network_of c) u) a t (path_listed c.nodes within J.start_from J.start_to (joined_path J C))

-- ---- a list filled place by place: before the place of column u it holds f of each column
module _ (f : ℕ → ℕ) where
  pub filled_more : {u : ℕ} (l : List ℕ) {l' : List ℕ} → 1 ≤ u → u ≤ length l → l' ≡ set l (u - 1) (f u) → ((j : ℕ) → 1 + j < u → get_or l j 0 ≡ f (1 + j)) → (j : ℕ) → 1 + j < u + 1 → get_or l' j 0 ≡ f (1 + j)
  filled_more {u} l lo hi e old j b = ap (λ (x : List ℕ). get_or x j 0) e ∙ set_each (λ i x. 1 + i < u + 1 → x ≡ f (1 + i)) l (u - 1) (f u) (omega arith) (λ _. ap f here) (λ i n h. old i (⊎_elim (λ q. absurd (n (omega arith))) (λ q. q) (eq-or-lt_of_le {n = 1 + i} {m = u} (omega arith)))) j b
    where
      here : u ≡ 1 + (u - 1)
      here = omega arith

  pub filled_all : {k : ℕ} {l : List ℕ} → length l ≡ k → ((j : ℕ) → 1 + j < k + 1 → get_or l j 0 ≡ f (1 + j)) → l ≡ map f (numbers 1 k)
  filled_all {k} {l} e all = ext_get_or 0 l (map f (numbers 1 k)) lengths (λ j h. all j (omega arith) ∙ sym (get_or_map_numbers f 1 k j 0 (omega arith)))
    where
      lengths : length l ≡ length (map f (numbers 1 k))
      lengths = simp (length-map, length_numbers) e
