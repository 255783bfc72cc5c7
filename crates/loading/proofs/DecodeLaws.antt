-- The arcs of an admitted network in two arrays. Assumes nothing.
use Prim.Native.Nat.{ℕ, zero, suc, ◌+◌, ◌*◌, ◌-◌, ◌≤◌, ◌<◌}
use native.Mathlib.Omega.{arith}
use native.Mathlib.Nat.{eq-or-lt_of_le}
use mathlib.Core.Path.{◌≡◌, refl, sym, ◌∙◌, ap, subst}
use mathlib.Core.Logic.{⊎_elim}
use mathlib.Core.List.{List, [], ◌∷◌, ◌++◌, map, append-nil}
use lib.ListN.{length, get_or, take, drop, length-map, drop_of_length-le, get_or-map}
use Rattle.terms.specs.Network.{Net, weigh, cost_column, restrict, RisingFrom, no_more, next, ArcOf, Admitted}
use Rattle.terms.proofs.ListLaws.{get_or_mem, le_or_lt}
use Rattle.terms.proofs.NetworkLaws.{restrict_admitted}
use borrow.Rule.Slice.PartMut.{mid_len}
use Rattle.image.specs.Bytes.{field, decode}
use Rattle.image.specs.Layout.{edition, costs_start, arc_count, column_count, net_of}
use Rattle.image.specs.declared.check.Sizes.{Sizes}
use Rattle.image.specs.Outcome.{sound}
use Rattle.image.specs.Calls.{image_fault}
use Rattle.image.proofs.CheckLaws.{Sized}
use Rattle.image.proofs.NetworkLaws.{accepted_network, length_columns}
use Rattle.star.specs.Arcs.{graph, Arcs}
use Rattle.star.proofs.SearchLaws.{Below, lower_tail, lower_head, below_is}
use Rattle.loading.specs.Accepted.{Accepted, InColumn}
use Rattle.loading.specs.Selected.{Indices, selected}
use Rattle.loading.proofs.PartLaws.{length_arcs, length_to, arc_at, column_inside, column_at}
use Rattle.loading.proofs.SelectLaws.{index_below, selected_restrict}
use Rattle.loading.proofs.RowLaws.{get_or_map_in}

-- the arrays hold the arcs of the network: with any light weights they are a graph's
pub record Decoded (net : Net) (ts hs : List ℕ) : Type 0 where
  pub tails_are : ts ≡ map (λ a. a.0) net.arcs
  pub heads_are : hs ≡ map (λ a. a.1) net.arcs
  pub arcs : (ws : List ℕ) → length ws ≡ length net.arcs → ((i : ℕ) → i < length ws → get_or ws i 0 ≤ 1000000) → Arcs net.nodes ts hs ws
  -- strictly rising by tail, then head
  pub tails_rise : (i j : ℕ) → i < j → j < length ts → get_or ts i 0 ≤ get_or ts j 0
  pub heads_rise : (i j : ℕ) → i < j → j < length ts → get_or ts i 0 ≡ get_or ts j 0 → get_or hs i 0 < get_or hs j 0

-- a slice that is as long as what is written over its beginning
pub whole : (l d : List ℕ) {m : ℕ} → length d ≡ m → l ++ drop m d ≡ l
whole l d {m} e = ap (λ (r : List ℕ). l ++ r) (drop_of_length-le d {i = m} (omega arith)) ∙ append-nil l

-- ---- the graph
abbrev pub tails : List (ℕ × ℕ) → List ℕ
tails l = map (λ a. a.0) l

abbrev pub heads : List (ℕ × ℕ) → List ℕ
heads l = map (λ a. a.1) l

pub graph_weigh : (l : List (ℕ × ℕ)) (ws : List ℕ) → graph (tails l) (heads l) ws ≡ weigh l ws
unfolding graph weigh
graph_weigh [] ws = refl
graph_weigh (a ∷ l) [] = refl
graph_weigh (a ∷ l) (w ∷ ws) = ap (λ g. record { tail = a.0; head = a.1; weight = w } ∷ g) (graph_weigh l ws)

-- ---- the order of the arcs
below_trans : {a b c : ℕ × ℕ} → Below a b → Below b c → Below a c
below_trans (lower_tail h) (lower_tail k) = lower_tail (omega arith)
below_trans (lower_tail h) (lower_head e k) = lower_tail (omega arith)
below_trans (lower_head e h) (lower_tail k) = lower_tail (omega arith)
below_trans (lower_head e h) (lower_head e' k) = lower_head (omega arith) (omega arith)

-- each arc of a rising list is above the first, and above those before it
rising_above : {a : ℕ × ℕ} {l : List (ℕ × ℕ)} → RisingFrom a l → (j : ℕ) → j < length l → Below a (get_or l j (0, 0))
rising_above no_more j h = absurd (omega arith)
rising_above (next e r) zero h = below_is e
rising_above (next e r) (suc j) h = below_trans (below_is e) (rising_above r j (omega arith))

rising_at : {a : ℕ × ℕ} {l : List (ℕ × ℕ)} → RisingFrom a l → (i j : ℕ) → i < j → j < length l → Below (get_or l i (0, 0)) (get_or l j (0, 0))
rising_at no_more i j h k = absurd (omega arith)
rising_at (next e r) i zero h k = absurd (omega arith)
rising_at (next e r) zero (suc j) h k = rising_above r j (omega arith)
rising_at (next e r) (suc i) (suc j) h k = rising_at r i j (omega arith) (omega arith)

below_tails : {a b : ℕ × ℕ} → Below a b → a.0 ≤ b.0
below_tails (lower_tail h) = omega arith
below_tails (lower_head e h) = omega arith

below_heads : {a b : ℕ × ℕ} → Below a b → a.0 ≡ b.0 → a.1 < b.1
below_heads (lower_tail h) e = absurd (omega arith)
below_heads (lower_head e' h) e = h

-- ---- the arcs of an admitted network
module _ {e : ℕ} {net : Net} (ok : Admitted e net) where
  tail_is : (i : ℕ) → get_or (tails net.arcs) i 0 ≡ (get_or net.arcs i (0, 0)).0
  tail_is i = get_or-map (λ (a : ℕ × ℕ). a.0) net.arcs i (0, 0)

  head_is : (i : ℕ) → get_or (heads net.arcs) i 0 ≡ (get_or net.arcs i (0, 0)).1
  head_is i = get_or-map (λ (a : ℕ × ℕ). a.1) net.arcs i (0, 0)

  arc_of : (i : ℕ) → i < length net.arcs → ArcOf net.nodes (get_or net.arcs i (0, 0))
  arc_of i h = ok.arcs_of _ (get_or_mem net.arcs (0, 0) i h)

  heads_rise : (i j : ℕ) → i < j → j < length net.arcs → get_or (tails net.arcs) i 0 ≡ get_or (tails net.arcs) j 0 → get_or (heads net.arcs) i 0 < get_or (heads net.arcs) j 0
  heads_rise i j h k e = rw (head_is i, head_is j) (below_heads (rising_at ok.rising i j h k) (sym (tail_is i) ∙ e ∙ tail_is j))

  simple : (i j : ℕ) → i < length net.arcs → j < length net.arcs → get_or (tails net.arcs) i 0 ≡ get_or (tails net.arcs) j 0 → get_or (heads net.arcs) i 0 ≡ get_or (heads net.arcs) j 0 → i ≡ j
  simple i j h k e f =
      ⊎_elim (λ l. ⊎_elim (λ q. q) (λ l'. absurd (omega (arith, heads_rise i j l' k e))) (eq-or-lt_of_le l)) (λ l. absurd (omega (arith, heads_rise j i l h (sym e)))) (le_or_lt i j)

  arcs_fit : (ws : List ℕ) → length ws ≡ length net.arcs → ((i : ℕ) → i < length ws → get_or ws i 0 ≤ 1000000) → Arcs net.nodes (tails net.arcs) (heads net.arcs) ws
  arcs_fit ws long light = record {
    heads_long = simp length-map;
    weights_long = simp length-map long;
    few = simp length-map ok.arcs_to;
    few_nodes = ok.nodes_to;
    tail_from = λ i h. rw (tail_is i) (arc_of i (rw length-map at h)).tail_from;
    tail_to = λ i h. rw (tail_is i) (arc_of i (rw length-map at h)).tail_to;
    head_from = λ i h. rw (head_is i) (arc_of i (rw length-map at h)).head_from;
    head_to = λ i h. rw (head_is i) (arc_of i (rw length-map at h)).head_to;
    light = λ i h. let k = rw length-map at h in omega (arith, light i (omega arith));
    simple = λ i j h k. simple i j (rw length-map at h) (rw length-map at k);
  }

  -- arrays that hold the arcs
  pub decoded : (ts hs : List ℕ) → ts ≡ tails net.arcs → hs ≡ heads net.arcs → Decoded net ts hs
  decoded ts hs e f = rw (e, f) (record {
    tails_are = refl;
    heads_are = refl;
    arcs = arcs_fit;
    tails_rise = λ i j h k. rw (tail_is i, tail_is j) (below_tails (rising_at ok.rising i j h (rw length-map at k)));
    heads_rise = λ i j h k. heads_rise i j h (rw length-map at k);
  })

  pub arcs_decoded : Decoded net (tails net.arcs) (heads net.arcs)
  arcs_decoded = decoded (tails net.arcs) (heads net.arcs) refl refl

-- ---- an accepted image
-- Check's answer says of it: these are its sizes
pub accepted_of : {b : List ℕ} {sizes : Sizes} → image_fault b ≡ sound → Sized b sizes.n sizes.m sizes.k sizes.edition → Accepted b sizes
unfolding net_of
accepted_of {b} ok s = record { passes = ok; nodes_are = s.n_is; arcs_are = s.m_is ∙ sym (length_arcs b ok); columns_are = s.k_is ∙ sym (length_columns b); edition_is = s.e_is }

module _ {b : List ℕ} {sizes : Sizes} (a : Accepted b sizes) where
  pub admitted : Admitted (edition b) (net_of b)
  admitted = accepted_network b a.passes

  pub arc_count_is : sizes.m ≡ arc_count b
  arc_count_is = a.arcs_are ∙ length_arcs b a.passes

  pub few_arcs : sizes.m ≤ 1000
  few_arcs = omega (arith, a.arcs_are, admitted.arcs_to)

  pub few_nodes : sizes.n ≤ 200
  few_nodes = omega (arith, a.nodes_are, admitted.nodes_to)

  pub few_columns : sizes.k ≤ 8
  few_columns = omega (arith, a.columns_are, admitted.columns_to)

  pub column_counted : {u : ℕ} → InColumn b u → u ≤ column_count b
  column_counted c = omega (arith, c.upto, length_columns b)

  -- column u lies inside the image, which is not long, and holds the column's costs
  module _ {u : ℕ} (c : InColumn b u) where
    pub column_few : (sizes.m ≤ 1000) × (1 ≤ u) × (u ≤ 8)
    column_few = (few_arcs, c.from, omega (arith, c.upto, admitted.columns_to))

    module _ {i : ℕ} (start : i ≡ costs_start sizes.m + 4 * ((u - 1) * sizes.m)) where
      pub column_lies : (i + 4 * sizes.m ≤ length b) × (length b ≤ 36024)
      column_lies = (omega (arith, start, column_inside b a.passes sizes.m u arc_count_is c.from (column_counted c)), length_to b a.passes)

      pub column_bytes : length (take (i + 4 * sizes.m - i) (drop i b)) ≡ 4 * sizes.m
      column_bytes = mid_len i (i + 4 * sizes.m) b column_lies.0 ∙ omega arith

      pub column_read : decode 4 sizes.m (take (i + 4 * sizes.m - i) (drop i b)) ≡ cost_column (net_of b) u
      column_read =
          let size : i + 4 * sizes.m - i ≡ 4 * sizes.m = omega arith in
          ap (λ (x : ℕ). decode 4 sizes.m (take x (drop i b))) size ∙ ap (λ (x : ℕ). decode 4 sizes.m (take (4 * sizes.m) (drop x b))) start ∙ sym (column_at b a.passes sizes.m u arc_count_is c.from (column_counted c))

  -- the arcs at given indices
  module _ {ks : List ℕ} (I : Indices sizes.m ks) where
    pub selected_is : selected ks (net_of b) ≡ restrict I.test (net_of b)
    selected_is = selected_restrict admitted I.test a.arcs_are I.are

    pub selected_admitted : Admitted (edition b) (selected ks (net_of b))
    selected_admitted = subst (Admitted (edition b)) (sym selected_is) (restrict_admitted admitted I.test)

    -- arc i of them is read from the image
    pub selected_arc : (i : ℕ) → i < length ks → get_or (selected ks (net_of b)).arcs i (0, 0) ≡ (field 2 b (24 + 4 * get_or ks i 0), field 2 b (26 + 4 * get_or ks i 0))
    unfolding selected
    selected_arc i h =
        get_or_map_in (λ j. get_or (net_of b).arcs j (0, 0)) ks i 0 (0, 0) h ∙ arc_at b a.passes (get_or ks i 0) (omega (arith, index_below I i h, arc_count_is))
