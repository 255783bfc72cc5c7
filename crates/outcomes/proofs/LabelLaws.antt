-- The exact labels of a column, as Label writes them, in 32 bits. Assumes nothing.
use Prim.Native.Nat.{ℕ, ◌+◌, ◌-◌, ◌≤◌, ◌<◌}
use native.Mathlib.Omega.{arith}
use native.Mathlib.Decide.{dec_lt}
use mathlib.Core.Path.{◌≡◌, refl, sym, ◌∙◌, ap}
use mathlib.Core.Bool.{Bool, false}
use mathlib.Core.List.{List, [], map}
use lib.ListN.{length, get_or, drop, length-map, length-drop, get_or-map}
use lib.Seq.{ext_get_or, get_or-drop}
use borrow.Author.Tests.{eq-eqb, ne_eqb}
use Rattle.terms.specs.Lists.{numbers}
use Rattle.terms.specs.Network.{Graph, Net, column, Admitted, mark}
use Rattle.terms.specs.Regret.{label, labels}
use Rattle.terms.proofs.ListLaws.{length_numbers, get_or_map_numbers}
use Rattle.star.specs.Arcs.{graph, Arcs}
use Rattle.labels.specs.Labels.{far, Least}
use Rattle.outcomes.specs.Labels.{narrowed, Narrow, is_far, is_small}
use Rattle.loading.proofs.LoadLaws.{column_held}
use Rattle.labels.proofs.LabelLaws as laws

-- ---- in 32 bits
pub narrowed_far : (l : ℕ) → l ≡ far → narrowed l ≡ mark
unfolding narrowed
narrowed_far l e = rw (eq-eqb l far e)

pub narrowed_near : (l : ℕ) → (l ≡ far → ⊥) → narrowed l ≡ l
unfolding narrowed
narrowed_near l e = rw (ne_eqb l far e)

pub narrow_fits : {l : ℕ} → Narrow l → (l ≡ far → ⊥) → l ≤ 199000000
narrow_fits (is_far e) n = absurd (n e)
narrow_fits (is_small h) n = h

-- the label of node i + 1
pub narrowed_at : (ls : List ℕ) (i : ℕ) → get_or (map narrowed (drop 1 ls)) i 0 ≡ narrowed (get_or ls (i + 1) 0)
unfolding narrowed
narrowed_at ls i = let e : 1 + i ≡ i + 1 = omega arith in get_or-map narrowed (drop 1 ls) i 0 ∙ ap narrowed (get_or-drop 1 ls i 0 ∙ ap (λ (j : ℕ). get_or ls j 0) e)

pub length_narrowed : (ls : List ℕ) → length (map narrowed (drop 1 ls)) ≡ length ls - 1
length_narrowed ls = simp (length-map, length-drop)

pub length_labels : (n : ℕ) (g : Graph) (t : ℕ) → length (labels n g t) ≡ n
unfolding labels
length_labels n g t = simp (length-map, length_numbers)

-- ---- exact labels of a graph in arrays, at a node
module _ {n t : ℕ} {ts hs ws ls : List ℕ} (arcs : Arcs n ts hs ws) (l : Least (graph ts hs ws) [] t ls) (long : length ls ≡ n + 1) (v : ℕ) (lo : 1 ≤ v) (hi : v ≤ n) where
  free : (x : ℕ) → 1 ≤ x → x ≤ n → get_or {A = Bool} [] x false ≡ false
  free x _ _ = refl

  exact_at : label n (graph ts hs ws) t v ≡ narrowed (get_or ls v 0)
  exact_at = by_case (dec_lt (get_or ls v 0) far)
    where
      by_case : Dec (get_or ls v 0 < far) → label n (graph ts hs ws) t v ≡ narrowed (get_or ls v 0)
      by_case (yes k) = laws.reached_label arcs l free v lo hi (omega arith) k ∙ sym (narrowed_near (get_or ls v 0) (λ e. omega arith))
      by_case (no k) = let e : get_or ls v 0 ≡ far = omega (arith, l.at_most v) in laws.unreached_label arcs l free v lo hi e ∙ sym (narrowed_far (get_or ls v 0) e)

-- ---- of a column
module _ {e : ℕ} {net : Net} {u t : ℕ} {ls : List ℕ} (ok : Admitted e net) (from : 1 ≤ u) (upto : u ≤ length net.columns) (long : length ls ≡ net.nodes + 1) (l : Least (column net u) [] t ls) where
  -- a label is the mark, or small
  pub narrow_at : (v : ℕ) → v < length ls → Narrow (get_or ls v 0)
  narrow_at v h = by_case (dec_lt (get_or ls v 0) far)
    where
      by_case : Dec (get_or ls v 0 < far) → Narrow (get_or ls v 0)
      by_case (yes k) = let held = column_held ok from upto in is_small (omega (arith, laws.label_le held.arcs (rw (← held.graph_is) at l) 1000000 held.light v h k))
      by_case (no k) = is_far (omega (arith, l.at_most v))

  pub label_narrowed : (v : ℕ) → 1 ≤ v → v ≤ net.nodes → label net.nodes (column net u) t v ≡ narrowed (get_or ls v 0)
  label_narrowed v lo hi = let held = column_held ok from upto in rw (← held.graph_is) (exact_at held.arcs (rw (← held.graph_is) at l) long v lo hi)

  -- the labels of the nodes 1 to n are those of REFERENCE, section 4.2
  pub labels_are : map narrowed (drop 1 ls) ≡ labels net.nodes (column net u) t
  unfolding labels
  labels_are = ext_get_or 0 _ _ lengths (λ i h. at_place i (omega (arith, length_narrowed ls)))
    where
      lengths : length (map narrowed (drop 1 ls)) ≡ length (map (label net.nodes (column net u) t) (numbers 1 net.nodes))
      lengths = simp (length-map, length-drop, length_numbers) (omega arith)

      at_place : (i : ℕ) → i < net.nodes → get_or (map narrowed (drop 1 ls)) i 0 ≡ get_or (map (label net.nodes (column net u) t) (numbers 1 net.nodes)) i 0
      at_place i h = let e : i + 1 ≡ 1 + i = omega arith in narrowed_at ls i ∙ sym (label_narrowed (i + 1) (omega arith) (omega arith)) ∙ ap (label net.nodes (column net u) t) e ∙ sym (get_or_map_numbers (label net.nodes (column net u) t) 1 net.nodes i 0 h)
