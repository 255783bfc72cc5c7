-- The arcs that are open in every column: the paths of their network are the paths open in every column, at the same costs. Assumes nothing.
use Prim.Native.Nat.{ℕ, suc, ◌≤◌}
use native.Mathlib.Omega.{arith}
use mathlib.Core.Path.{◌≡◌, refl, sym, ◌∙◌, ap, ap₂, subst}
use mathlib.Core.Bool.{true}
use mathlib.Core.Logic.{◌≢◌, ⊎_elim}
use mathlib.Core.List.Memᴰ
use mathlib.Core.List.{List, [], map}
use mathlib.Core.Option.{none}
use lib.ListN.{length, get_or, get_or-eq_default}
use lib.Seq.{take-length}
use borrow.Author.Tests.{not-true}
use Rattle.terms.specs.Lists.{◌∈◌, elem}
use Rattle.terms.specs.Network.{Arc, Net, mark, weigh, cost_column, linked, column, open_everywhere, common, Cost, at_most, marked, Admitted}
use Rattle.terms.specs.Paths.{Route, Path, OpenPath, cost}
use Rattle.terms.specs.Regret.{open_fault}
use Rattle.terms.proofs.ListLaws.{split, clash, le_or_lt, elem_mem, mem_elem, pick_mem, get_or_mem, mem_place}
use Rattle.terms.proofs.PathLaws.{no_fault_path, path_no_fault}
use Rattle.terms.proofs.GraphLaws.{Part, linked_arc, arc_linked, step_linked, path_by, part_path, part_cost}
use Rattle.terms.proofs.NetworkLaws.{ArcAt, costs_restrict, column_unmarked, restricted_arc, arc_restricted, restrict_all, column_arc, restrict_part, costs_mem, costs_long, same_index, column_simple, restrict_admitted, restrict_columns, restrict_nodes}

-- ---- the arcs that are open in every column
module _ {e : ℕ} {net : Net} (ok : Admitted e net) where
  -- such an arc is an arc of each column
  pub not_marked : (u i : ℕ) → open_everywhere net i ≡ true → 1 ≤ u → u ≤ length net.columns → get_or (cost_column net u) i 0 ≢ mark
  unfolding open_everywhere
  not_marked u i t lo hi c =
      clash (mem_elem (Memᴰ.cast (sym c) (Memᴰ.map (λ (l : List ℕ). get_or l i 0) (costs_mem ok u lo hi)))) (not-true (elem mark (map (λ l. get_or l i 0) net.columns)) t)

  open_arc : {u i : ℕ} {x : Arc} (v : ℕ) → ArcAt net u i x → open_everywhere net i ≡ true → 1 ≤ v → v ≤ length net.columns
      → (y : Arc) × ArcAt net v i y × (y.tail ≡ x.tail) × (y.head ≡ x.head)
  open_arc {i} {x} v a t lo hi = (
    record { tail = x.tail; head = x.head; weight = get_or (cost_column net v) i 0 },
    record { below_arcs = a.below_arcs; below_costs = rw (costs_long ok v lo hi) a.below_arcs; tail_is = a.tail_is; head_is = a.head_is; weight_is = refl; not_closed = not_marked v i t lo hi },
    refl,
    refl,
  )

  pub common_linked : (u v a b : ℕ) → 1 ≤ v → v ≤ length net.columns → linked (column (common net) u) a b ≡ true → linked (column (common net) v) a b ≡ true
  unfolding common
  common_linked u v a b lo hi l =
      let k = linked_arc (column (common net) u) a b l in
      let at = restricted_arc (open_everywhere net) net u k.1 in
      let y = open_arc v at.1 at.2 lo hi in
      ap₂ (linked (column (common net) v)) (sym (y.2 ∙ k.2)) (sym (y.3 ∙ k.3)) ∙ arc_linked (arc_restricted (open_everywhere net) net v y.1 at.2)

  -- and an arc of each column is one
  pub open_by : (i : ℕ) → ((u : ℕ) → 1 ≤ u → u ≤ length net.columns → get_or (cost_column net u) i 0 ≢ mark) → open_everywhere net i ≡ true
  unfolding open_everywhere cost_column
  open_by i f = ⊎_elim (λ h. absurd (closed_in (Memᴰ.of_map at_i net.columns (elem_mem mark (map at_i net.columns) h)))) (λ h. rw h) (split (elem mark (map at_i net.columns)))
    where
      at_i : List ℕ → ℕ
      at_i l = get_or l i 0

      closed_in : (c : List ℕ) × (c ∈ net.columns) × (get_or c i 0 ≡ mark) → ⊥
      closed_in (c, m, z) =
          let j = mem_place (length net.columns) net.columns [] {x = c} (rw (take-length net.columns) m) in
          f (suc j.0) (omega arith) (omega (arith, j.1)) (ap (λ k. get_or (get_or net.columns k []) i 0) (omega arith) ∙ ap at_i (sym j.3) ∙ z)

  all_open : (a b : ℕ) → ((u : ℕ) → 1 ≤ u → u ≤ length net.columns → linked (column net u) a b ≡ true) → (u : ℕ) → 1 ≤ u → u ≤ length net.columns → linked (column (common net) u) a b ≡ true
  unfolding common
  all_open a b f u lo hi =
      let x = linked_arc (column net u) a b (f u lo hi) in
      let at = column_arc net u x.1 in
      ap₂ (linked (column (common net) u)) (sym x.2) (sym x.3) ∙ arc_linked (arc_restricted (open_everywhere net) net u at.1 (open_by at.0 (elsewhere at.1 x.2 x.3)))
    where
      elsewhere : {i : ℕ} {x : Arc} → ArcAt net u i x → x.tail ≡ a → x.head ≡ b → (v : ℕ) → 1 ≤ v → v ≤ length net.columns → get_or (cost_column net v) i 0 ≢ mark
      elsewhere at p q v lo' hi' z =
          let y = linked_arc (column net v) a b (f v lo' hi') in
          let at' = column_arc net v y.1 in
          at'.1.not_closed (at'.1.weight_is ∙ ap (λ k. get_or (cost_column net v) k 0) (same_index ok at'.1 at (y.2 ∙ sym p) (y.3 ∙ sym q)) ∙ z)

  -- ---- so the paths of its columns are the paths open in every column, and cost in it what they cost in the network
  pub common_part : (u : ℕ) → Part (column (common net) u) (column net u)
  unfolding common
  common_part u = restrict_part (open_everywhere net) net u

  pub common_path : (r : ℕ) {s t : ℕ} {p : Route} → Path (column (common net) r) s t p → OpenPath net s t p
  common_path r q = record { in_column = λ u lo hi. part_path (common_part u) (path_by (column (common net) u) q (λ a b n. common_linked r u a b lo hi (step_linked q.by_arcs n))) }

  pub path_common : {s t : ℕ} {p : Route} (r : ℕ) → 1 ≤ r → r ≤ length net.columns → OpenPath net s t p → Path (column (common net) r) s t p
  path_common r lo hi q =
      path_by (column (common net) r) (q.in_column r lo hi) (λ a b n. all_open a b (λ u lo hi. step_linked (q.in_column u lo hi).by_arcs n) r lo hi)

  pub common_cost : (r : ℕ) {s t : ℕ} {p : Route} → Path (column (common net) r) s t p → cost (column (common net) r) p ≡ cost (column net r) p
  common_cost r q = part_cost (common_part r) (column_simple ok r) q.by_arcs

  -- none of its costs is the mark, so its columns have all of its arcs, and no cost is above 1,000,000
  common_cost_open : (u : ℕ) → 1 ≤ u → u ≤ length net.columns → (w : ℕ) → w ∈ cost_column (common net) u → w ≢ mark
  unfolding common
  common_cost_open u lo hi w m z =
      let k = pick_mem (open_everywhere net) 0 0 (cost_column net u) (subst (λ l. w ∈ l) (costs_restrict (open_everywhere net) net u) m) in
      not_marked u k.0 (ap (open_everywhere net) (omega arith) ∙ k.2) lo hi (sym k.3 ∙ z)

  pub common_whole : (u : ℕ) → 1 ≤ u → u ≤ length net.columns → column (common net) u ≡ weigh (common net).arcs (cost_column (common net) u)
  common_whole u lo hi = column_unmarked (common net) u (common_cost_open u lo hi)

  pub common_cost_to : (u : ℕ) → 1 ≤ u → u ≤ length net.columns → (w : ℕ) → w ∈ cost_column (common net) u → w ≤ 1000000
  unfolding common
  common_cost_to u lo hi w m = cheap (ok'.costs_to (cost_column (common net) u) (costs_mem ok' u lo (omega (arith, restrict_columns (open_everywhere net) net))) w m)
    where
      ok' : Admitted e (common net)
      ok' = restrict_admitted ok (open_everywhere net)

      cheap : Cost e w → w ≤ 1000000
      cheap (at_most h) = h
      cheap (marked d h) = absurd (common_cost_open u lo hi w m h)

  -- row 14's check passes exactly these
  pub no_fault_open : (s t : ℕ) (p : Route) → open_fault net s t p ≡ none → OpenPath net s t p
  unfolding open_fault
  no_fault_open s t p h = common_path 1 (no_fault_path (column (common net) 1) s t p h)

  pub open_no_fault : {s t : ℕ} {p : Route} → OpenPath net s t p → open_fault net s t p ≡ none
  unfolding open_fault
  open_no_fault q = path_no_fault (path_common 1 (omega arith) ok.columns_from q)

  pub common_admitted : Admitted e (common net)
  unfolding common
  common_admitted = restrict_admitted ok (open_everywhere net)

-- it has the same columns and nodes
pub common_columns : (net : Net) → length (common net).columns ≡ length net.columns
unfolding common
common_columns net = restrict_columns (open_everywhere net) net

pub common_nodes : (net : Net) → (common net).nodes ≡ net.nodes
unfolding common
common_nodes net = restrict_nodes (open_everywhere net) net

-- where no cost is the mark, as in edition 1, these are all arcs
pub everywhere_unmarked : (net : Net) → ((c : List ℕ) → c ∈ net.columns → (w : ℕ) → w ∈ c → w ≢ mark) → (i : ℕ) → open_everywhere net i ≡ true
unfolding open_everywhere
everywhere_unmarked net h i = ⊎_elim (λ k. let o = Memᴰ.of_map at_i net.columns (elem_mem mark (map at_i net.columns) k) in absurd (no_mark o.0 o.1 o.2)) (λ k. rw k) (split (elem mark (map at_i net.columns)))
  where
    at_i : List ℕ → ℕ
    at_i c = get_or c i 0

    no_mark : (c : List ℕ) → c ∈ net.columns → get_or c i 0 ≢ mark
    no_mark c m z = ⊎_elim (λ l. omega (arith, get_or-eq_default c 0 l)) (λ l. h c m mark (Memᴰ.cast (sym z) (get_or_mem c 0 i l)) refl) (le_or_lt (length c) i)

pub common_unmarked : (net : Net) → ((c : List ℕ) → c ∈ net.columns → (w : ℕ) → w ∈ c → w ≢ mark) → common net ≡ net
unfolding common
common_unmarked net h = restrict_all (open_everywhere net) net (everywhere_unmarked net h)

pub unmarked : {net : Net} → Admitted 1 net → (c : List ℕ) → c ∈ net.columns → (w : ℕ) → w ∈ c → w ≢ mark
unmarked ok c m w n = cheap (ok.costs_to c m w n)
  where
    cheap : Cost 1 w → w ≢ mark
    cheap (at_most h) e = omega arith
    cheap (marked d h) e = omega arith
