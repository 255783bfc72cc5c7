-- Check, row by row: which row of an image's header applies, and what is known where none does. Assumes nothing.
-- ---- sizes
use Prim.Native.Nat.{ℕ, ◌+◌, ◌*◌, ◌≤◌, ◌<◌}
use native.Mathlib.Omega.{arith}
use native.Mathlib.Nat.{mul-le-mul}
use mathlib.Core.Path.{◌≡◌, refl}
use mathlib.Core.Bool.{true, false, ◌&&◌}
use mathlib.Core.List.{List, [], ◌∷◌}
use lib.Dec.{leb}
use lib.ListN.{length}
use borrow.Author.Tests.{lt-ltb, le-ltb, ltb-false, leb-true, le-leb, eq-eqb, ne_eqb, eqb-true, not-false}
use Rattle.terms.proofs.ListLaws.{and_both}
use Rattle.image.specs.Outcome.{sound, fault, row, ◌then◌, gives, refuses, outcome}
use Rattle.image.specs.Rows.{edition_row, in_range, pairs, lists_fault}
use Rattle.image.specs.Layout.{edition, node_count, arc_count, column_count, fields_right, costs_start, total, nodes_in, costs_in, node_list, cost_list}
use Rattle.image.specs.Calls.{header_fault, taken_fault, image_fault, sizes, check_outcome}
use Rattle.image.proofs.OutcomeLaws.{then_next, then_sound, row_sound, gives_sound, refuses_fault}

pub record InRange (n m k : ℕ) : Type 0 where
  pub nodes_from : 2 ≤ n
  pub nodes_to : n ≤ 200
  pub arcs_to : m ≤ 1000
  pub columns_from : 1 ≤ k
  pub columns_to : k ≤ 8

pub in_range_true : {n m k : ℕ} → in_range n m k ≡ true → InRange n m k
unfolding in_range
in_range_true {n} {m} {k} e =
    let e₁ = and_both (leb 2 n) _ e in
    let e₂ = and_both (leb n 200) _ e₁.1 in
    let e₃ = and_both (leb m 1000) _ e₂.1 in
    let e₄ = and_both (leb 1 k) (leb k 8) e₃.1 in
    record { nodes_from = leb-true _ _ e₁.0; nodes_to = leb-true _ _ e₂.0; arcs_to = leb-true _ _ e₃.0; columns_from = leb-true _ _ e₄.0; columns_to = leb-true _ _ e₄.1 }

pub range_in : {n m k : ℕ} → InRange n m k → in_range n m k ≡ true
unfolding in_range
range_in r = rw (le-leb _ _ r.nodes_from, le-leb _ _ r.nodes_to, le-leb _ _ r.arcs_to, le-leb _ _ r.columns_from, le-leb _ _ r.columns_to)

-- ---- the header
module _ (latest : ℕ) (b : List ℕ) where
  pub row_1 : length b < 24 → header_fault latest b ≡ fault 1 0
  unfolding header_fault row ◌then◌
  row_1 h = rw (lt-ltb _ _ h)

  module _ (long : 24 ≤ length b) where
    pub row_2 : (leb 1 (edition b) && leb (edition b) latest) ≡ false → header_fault latest b ≡ fault 2 0
    unfolding header_fault edition_row row ◌then◌
    row_2 h = rw (le-ltb _ _ long, h)

    module _ (taken : (leb 1 (edition b) && leb (edition b) latest) ≡ true) where
      pub row_3 : in_range (node_count b) (arc_count b) (column_count b) ≡ false → header_fault latest b ≡ fault 3 0
      unfolding header_fault edition_row row ◌then◌
      row_3 h = rw (le-ltb _ _ long, taken, h)

      module _ (ranges : in_range (node_count b) (arc_count b) (column_count b) ≡ true) where
        pub row_4 : fields_right b (arc_count b) (column_count b) ≡ false → header_fault latest b ≡ fault 4 0
        unfolding header_fault edition_row row ◌then◌
        row_4 h = rw (le-ltb _ _ long, taken, ranges, h)

        module _ (fields : fields_right b (arc_count b) (column_count b) ≡ true) where
          pub row_5 : (length b ≡ total (arc_count b) (column_count b) → ⊥) → header_fault latest b ≡ fault 5 0
          unfolding header_fault edition_row row ◌then◌
          row_5 h = rw (le-ltb _ _ long, taken, ranges, fields, ne_eqb _ _ h)

          pub rows_pass : length b ≡ total (arc_count b) (column_count b) → header_fault latest b ≡ sound
          unfolding header_fault edition_row row ◌then◌
          rows_pass h = rw (le-ltb _ _ long, taken, ranges, fields, eq-eqb _ _ h)

-- what a sound header says
pub record HeaderSound (latest : ℕ) (b : List ℕ) : Type 0 where
  pub long : 24 ≤ length b
  pub taken : (leb 1 (edition b) && leb (edition b) latest) ≡ true
  pub ranges : InRange (node_count b) (arc_count b) (column_count b)
  pub fields : fields_right b (arc_count b) (column_count b) ≡ true
  pub whole : length b ≡ total (arc_count b) (column_count b)

pub header_sound : (latest : ℕ) (b : List ℕ) → header_fault latest b ≡ sound → HeaderSound latest b
unfolding header_fault edition_row
header_sound latest b e =
    let e₁ = then_sound _ _ e in
    let e₂ = then_sound _ _ e₁.1 in
    let e₃ = then_sound _ _ e₂.1 in
    let e₄ = then_sound _ _ e₃.1 in
    record { long = ltb-false _ _ (row_sound _ _ _ e₁.0); taken = not-false _ (row_sound _ _ _ e₂.0); ranges = in_range_true (not-false _ (row_sound _ _ _ e₃.0)); fields = not-false _ (row_sound _ _ _ e₄.0); whole = eqb-true _ _ (not-false _ (row_sound _ _ _ e₄.1)) }

-- ---- the length of an image
pub total_to : {m k : ℕ} → m ≤ 1000 → k ≤ 8 → total m k ≤ 36024
unfolding total costs_start
total_to {m} {k} h h' = omega (arith, mul-le-mul h h')

pub total_is : (m k : ℕ) → total m k ≡ costs_start m + 4 * (m * k)
unfolding total
total_is m k = refl

pub costs_start_is : (m : ℕ) → costs_start m ≡ 24 + 4 * m
unfolding costs_start
costs_start_is m = refl

-- ---- the whole check
-- four numbers that are the image's sizes and its edition
pub record Sized (b : List ℕ) (n m k e : ℕ) : Type 0 where
  pub n_is : n ≡ node_count b
  pub m_is : m ≡ arc_count b
  pub k_is : k ≡ column_count b
  pub e_is : e ≡ edition b

pub sized : (b : List ℕ) {n m k e : ℕ} → n ∷ m ∷ k ∷ e ∷ [] ≡ sizes b → Sized b n m k e
unfolding sizes
sized b e = record { n_is = cc; m_is = cc; k_is = cc; e_is = cc }

pub same_sizes : (b : List ℕ) {n m k e : ℕ} → Sized b n m k e → n ∷ m ∷ k ∷ e ∷ [] ≡ sizes b
unfolding sizes
same_sizes b s = cc (s.n_is, s.m_is, s.k_is, s.e_is)

-- past a sound header the lists decide
pub body_decides : (latest : ℕ) (b : List ℕ) (n m k e : ℕ) → header_fault latest b ≡ sound → Sized b n m k e
    → outcome (lists_fault e n (pairs m (nodes_in m b)) (costs_in m k b)) (n ∷ m ∷ k ∷ e ∷ []) ≡ outcome (taken_fault latest b) (sizes b)
unfolding taken_fault node_list cost_list sizes
body_decides latest b n m k e h s =
    let e₁ : n ≡ node_count b = s.n_is in
    let e₂ : m ≡ arc_count b = s.m_is in
    let e₃ : k ≡ column_count b = s.k_is in
    let e₄ : e ≡ edition b = s.e_is in
    rw (e₁, e₂, e₃, e₄, then_next _ h)

-- and its sizes are bounded
pub bounds : (latest : ℕ) (b : List ℕ) (n m k e : ℕ) → header_fault latest b ≡ sound → Sized b n m k e → (m ≤ 1000) × (k ≤ 8) × (length b ≡ total m k)
bounds latest b n m k e h s =
    let r = header_sound latest b h in
    let e₂ : m ≡ arc_count b = s.m_is in
    let e₃ : k ≡ column_count b = s.k_is in
    (rw e₂ r.ranges.arcs_to, rw e₃ r.ranges.columns_to, rw (e₂, e₃) r.whole)

-- an accepted image has a sound header
pub accepted_header : (b : List ℕ) → image_fault b ≡ sound → header_fault 2 b ≡ sound
unfolding image_fault taken_fault
accepted_header b e = (then_sound _ _ e).0

-- what an answer of Check says of the image: it is accepted, and these are its sizes; or this fault applies
pub accepted : (b : List ℕ) {n m k e : ℕ} → gives (n ∷ m ∷ k ∷ e ∷ []) ≡ check_outcome b → (image_fault b ≡ sound) × Sized b n m k e
unfolding check_outcome
accepted b e = let g = gives_sound (image_fault b) (sizes b) e in (g.0, sized b g.1)

pub rejected : (b : List ℕ) {n p : ℕ} → refuses n p ≡ check_outcome b → image_fault b ≡ fault n p
unfolding check_outcome
rejected b e = refuses_fault (image_fault b) (sizes b) e
