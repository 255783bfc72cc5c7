-- What an accepted image promises to the layers above: its network is admitted. Assumes nothing.
-- ---- arcs
use Prim.Native.Nat.{ℕ, zero, suc, ◌+◌, ◌*◌, ◌≤◌}
use native.Mathlib.Omega.{arith}
use native.Mathlib.Nat.{suc-mul, mul_comm}
use mathlib.Core.Path.{◌≡◌, sym, ◌∙◌}
use mathlib.Core.Bool.{true}
use mathlib.Core.List.Memᴰ
use mathlib.Core.List.{List, [], ◌∷◌}
use mathlib.Core.Logic.{⊎_elim}
use lib.Dec.{leb, eqb}
use lib.ListN.{length, take, drop, length-drop}
use lib.Seq.{length-take-le}
use borrow.Author.Tests.{leb-true, eqb-true, eqb-false, not-false}
use Rattle.terms.specs.Lists.{◌∈◌}
use Rattle.terms.specs.Network.{mark, cut, below, RisingFrom, no_more, next, ArcOf, Cost, at_most, marked, Admitted}
use Rattle.terms.proofs.ListLaws.{or_cases, and_both, take_mem, drop_mem}
use Rattle.terms.proofs.ColumnLaws.{length_cut}
use Rattle.image.specs.Outcome.{sound}
use Rattle.image.specs.Rows.{is_node, pairs, arc_fault, arcs_fault, is_cost, costs_fault, lists_fault}
use Rattle.image.specs.Layout.{edition, node_count, arc_count, column_count, node_list, cost_list, costs_in, costs_start, net_of}
use Rattle.image.specs.Calls.{taken_fault, image_fault}
use Rattle.image.proofs.OutcomeLaws.{then_sound, row_sound}
use Rattle.image.proofs.ByteLaws.{length_decode}
use Rattle.image.proofs.RowLaws.{length_pairs}
use Rattle.image.proofs.CheckLaws.{HeaderSound, accepted_header, header_sound}

is_node_true : (n v : ℕ) → is_node n v ≡ true → (1 ≤ v) × (v ≤ n)
unfolding is_node
is_node_true n v e = let f = and_both (leb 1 v) (leb v n) e in (leb-true _ _ f.0, leb-true _ _ f.1)

-- an arc without a fault is one of the network's, above the arc before it
sound_arc : (n : ℕ) (last : ℕ × ℕ) (i : ℕ) (a : ℕ × ℕ) → arc_fault n last i a ≡ sound → ArcOf n a × (below last a ≡ true)
unfolding arc_fault
sound_arc n last i a e =
    let e₁ = then_sound _ _ e in
    let e₂ = then_sound _ _ e₁.1 in
    let f = and_both (is_node n a.0) (is_node n a.1) (not-false _ (row_sound _ _ _ e₁.0)) in
    let t = is_node_true n a.0 f.0 in
    let h = is_node_true n a.1 f.1 in
    (record { tail_from = t.0; tail_to = t.1; head_from = h.0; head_to = h.1; apart = eqb-false _ _ (row_sound _ _ _ e₂.0) }, not-false _ (row_sound _ _ _ e₂.1))

pub sound_arcs : (n : ℕ) (last : ℕ × ℕ) (i : ℕ) (arcs : List (ℕ × ℕ)) → arcs_fault n last i arcs ≡ sound → ((a : ℕ × ℕ) → a ∈ arcs → ArcOf n a) × RisingFrom last arcs
unfolding arcs_fault
sound_arcs n last i [] e = ((λ a m. elim m [ ]), no_more)
sound_arcs n last i (b ∷ arcs) e =
    let e₁ = then_sound _ _ e in
    let s = sound_arc n last i b e₁.0 in
    let r = sound_arcs n b (suc i) arcs e₁.1 in
    ((λ a m. ⊎_elim (λ (q : a ≡ b). rw q s.0) (r.0 a) (Memᴰ.cases_cons m)), next s.1 r.1)

-- ---- costs
pub allowed_cost : (e w : ℕ) → is_cost e w ≡ true → Cost e w
unfolding is_cost
allowed_cost e w h =
    ⊎_elim (λ a. at_most (leb-true w 1000000 a)) (λ b. let f = and_both (eqb e 2) (eqb w mark) b in marked (eqb-true e 2 f.0) (eqb-true w mark f.1)) (or_cases h)

pub sound_costs : (e i : ℕ) (costs : List ℕ) → costs_fault e i costs ≡ sound → (w : ℕ) → w ∈ costs → Cost e w
unfolding costs_fault
sound_costs e i [] h w m = elim m [ ]
sound_costs e i (c ∷ costs) h w m =
    let h₁ = then_sound _ _ h in
    ⊎_elim (λ (q : w ≡ c). rw q (allowed_cost e c (not-false _ (row_sound _ _ _ h₁.0)))) (sound_costs e (suc i) costs h₁.1 w) (Memᴰ.cases_cons m)

-- ---- columns
-- each column has m costs, all of them costs of the list
cut_full : (k m : ℕ) (l : List ℕ) → k * m ≤ length l → (c : List ℕ) → c ∈ cut k m l → (length c ≡ m) × ((w : ℕ) → w ∈ c → w ∈ l)
unfolding cut
cut_full zero m l h c e = elim e [ ]
cut_full (suc k) m l h c e =
    let long : k * m + m ≤ length l = rw suc-mul at h in
    ⊎_elim (λ (q : c ≡ take m l). rw q (length-take-le m l (omega arith), λ w o. take_mem m l o)) (λ o. let r = cut_full k m (drop m l) (omega (arith, length-drop m l)) c o in (r.0, λ w u. drop_mem m l (r.1 w u))) (Memᴰ.cases_cons e)

pub length_columns : (b : List ℕ) → length (net_of b).columns ≡ column_count b
unfolding net_of
length_columns b = length_cut (column_count b) (arc_count b) (cost_list b)

-- ---- the promise
pub accepted_costs : (b : List ℕ) → image_fault b ≡ sound → (w : ℕ) → w ∈ cost_list b → Cost (edition b) w
unfolding image_fault taken_fault lists_fault
accepted_costs b e = sound_costs (edition b) 0 (cost_list b) (then_sound _ _ (then_sound _ _ e).1).1

pub accepted_network : (b : List ℕ) → image_fault b ≡ sound → Admitted (edition b) (net_of b)
unfolding image_fault taken_fault lists_fault net_of cost_list costs_in
accepted_network b e = record {
  nodes_from = h.ranges.nodes_from;
  nodes_to = h.ranges.nodes_to;
  arcs_to = rw (length_pairs (arc_count b) (node_list b)) h.ranges.arcs_to;
  columns_from = rw (length_cut (column_count b) (arc_count b) (cost_list b)) h.ranges.columns_from;
  columns_to = rw (length_cut (column_count b) (arc_count b) (cost_list b)) h.ranges.columns_to;
  arcs_of = arcs.0;
  rising = arcs.1;
  full = λ c m. (column c m).0 ∙ sym (length_pairs (arc_count b) (node_list b));
  costs_to = λ c m w o. accepted_costs b e w ((column c m).1 w o);
}
  where
    h : HeaderSound 2 b
    h = header_sound 2 b (accepted_header b e)

    lists : (arcs_fault (node_count b) (0, 0) 0 (pairs (arc_count b) (node_list b)) ≡ sound) × (costs_fault (edition b) 0 (cost_list b) ≡ sound)
    lists = then_sound _ _ (then_sound _ _ e).1

    arcs : ((a : ℕ × ℕ) → a ∈ pairs (arc_count b) (node_list b) → ArcOf (node_count b) a) × RisingFrom (0, 0) (pairs (arc_count b) (node_list b))
    arcs = sound_arcs (node_count b) (0, 0) 0 (pairs (arc_count b) (node_list b)) lists.0

    enough : column_count b * arc_count b ≤ length (cost_list b)
    enough = omega (arith, length_decode 4 (arc_count b * column_count b) (drop (costs_start (arc_count b)) b), mul_comm (column_count b) (arc_count b))

    column : (c : List ℕ) → c ∈ cut (column_count b) (arc_count b) (cost_list b) → (length c ≡ arc_count b) × ((w : ℕ) → w ∈ c → w ∈ cost_list b)
    column = cut_full (column_count b) (arc_count b) (cost_list b) enough
