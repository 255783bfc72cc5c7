-- Build, row by row; the header, number after number; and the whole image. Assumes nothing.
-- ---- rows
use Prim.Native.Nat.{ℕ, ◌+◌, ◌*◌, ◌%◌, ◌≤◌, ◌<◌}
use native.Mathlib.Omega.{arith}
use native.Mathlib.Nat.{div-add-mod}
use mathlib.Core.Path.{◌≡◌, refl, ◌∙◌, ap₂}
use mathlib.Core.Bool.{Bool, true, false, ◌&&◌}
use mathlib.Core.List.{List, [], ◌++◌, append_assoc}
use lib.Dec.{leb, ltb, eqb}
use lib.ListN.{length, take, drop, length-append}
use borrow.Author.Tests.{ltb-false, leb-true, lt-leb, eq-eqb, ne_eqb, eqb-true, not-false}
use Rattle.terms.proofs.ListLaws.{and_both}
use Rattle.image.specs.Bytes.{bytes, encode}
use Rattle.image.specs.Outcome.{sound, fault, row, ◌then◌}
use Rattle.image.specs.Rows.{edition_row, in_range, pairs, lists_fault}
use Rattle.image.specs.Layout.{header, costs_start, total, half, image_of}
use Rattle.packing.specs.Calls.{build_fault}
use Rattle.image.proofs.OutcomeLaws.{then_sound, row_sound}
use Rattle.image.proofs.ByteLaws.{length_encode, write_next}
use Rattle.image.proofs.CheckLaws.{InRange, in_range_true, total_is, costs_start_is}

and_false : (a : Bool) {b : Bool} → b ≡ false → (a && b) ≡ false
and_false true e = e
and_false false e = refl

-- too many arcs
pub too_many : (n m k : ℕ) → 1000 < m → in_range n m k ≡ false
unfolding in_range
too_many n m k h = and_false (leb 2 n) (and_false (leb n 200) (rw (lt-leb m 1000 h)))

module _ (e n k : ℕ) (nodes costs : List ℕ) (room : ℕ) where
  pub row_2 : (leb 1 e && leb e 2) ≡ false → build_fault e n k nodes costs room ≡ fault 2 0
  unfolding build_fault edition_row row ◌then◌
  row_2 h = rw h

  module _ (taken : (leb 1 e && leb e 2) ≡ true) where
    pub row_3 : in_range n (half nodes) k ≡ false → build_fault e n k nodes costs room ≡ fault 3 0
    unfolding build_fault edition_row row ◌then◌
    row_3 h = rw (taken, h)

    module _ (ranges : in_range n (half nodes) k ≡ true) where
      pub row_4_odd : (length nodes % 2 ≡ 0 → ⊥) → build_fault e n k nodes costs room ≡ fault 4 0
      unfolding build_fault edition_row row ◌then◌
      row_4_odd h = rw (taken, ranges, ne_eqb (length nodes % 2) 0 h)

      module _ (even : length nodes % 2 ≡ 0) where
        pub row_4_costs : (length costs ≡ half nodes * k → ⊥) → build_fault e n k nodes costs room ≡ fault 4 0
        unfolding build_fault edition_row row ◌then◌
        row_4_costs h = rw (taken, ranges, eq-eqb (length nodes % 2) 0 even, ne_eqb (length costs) (half nodes * k) h)

        module _ (counted : length costs ≡ half nodes * k) where
          pub lists_decide : build_fault e n k nodes costs room ≡ (lists_fault e n (pairs (half nodes) nodes) costs then row 13 0 (ltb room (total (half nodes) k)))
          unfolding build_fault edition_row row ◌then◌
          lists_decide = rw (taken, ranges, eq-eqb (length nodes % 2) 0 even, eq-eqb (length costs) (half nodes * k) counted)

-- what lists that pass say
pub record BuildSound (e n k : ℕ) (nodes costs : List ℕ) (room : ℕ) : Type 0 where
  pub taken : (leb 1 e && leb e 2) ≡ true
  pub ranges : InRange n (half nodes) k
  pub even : length nodes % 2 ≡ 0
  pub counted : length costs ≡ half nodes * k
  pub lists : lists_fault e n (pairs (half nodes) nodes) costs ≡ sound
  pub fits : total (half nodes) k ≤ room

pub build_sound : (e n k : ℕ) (nodes costs : List ℕ) (room : ℕ) → build_fault e n k nodes costs room ≡ sound → BuildSound e n k nodes costs room
unfolding build_fault edition_row
build_sound e n k nodes costs room h =
    let e₀ = then_sound _ _ h in
    let e₁ = then_sound _ _ e₀.1 in
    let e₂ = then_sound _ _ e₁.1 in
    let e₃ = then_sound _ _ e₂.1 in
    let f = and_both (eqb (length nodes % 2) 0) (eqb (length costs) (half nodes * k)) (not-false _ (row_sound _ _ _ e₂.0)) in
    record { taken = not-false _ (row_sound _ _ _ e₀.0); ranges = in_range_true (not-false _ (row_sound _ _ _ e₁.0)); even = eqb-true _ _ f.0; counted = eqb-true _ _ f.1; lists = e₃.0; fits = ltb-false _ _ (row_sound _ _ _ e₃.1) }

-- the latest edition that is written is 2
pub edition_to : (e : ℕ) → (leb 1 e && leb e 2) ≡ true → e ≤ 2
edition_to e h = leb-true e 2 (and_both (leb 1 e) (leb e 2) h).1

-- ---- the header
-- t' is t with the w bytes of x at i
abbrev pub Wrote : ℕ → ℕ → ℕ → List ℕ → List ℕ → Type 0
Wrote w i x t t' = t' ≡ take i t ++ (bytes w x ++ drop (i + w) t)

pub header_written : (e n m k : ℕ) (t₀ t₁ t₂ t₃ t₄ t₅ t₆ t₇ t₈ : List ℕ) → Wrote 2 0 e t₀ t₁ → Wrote 2 2 n t₁ t₂ → Wrote 2 4 m t₂ t₃ → Wrote 2 6 k t₃ t₄
    → Wrote 4 8 24 t₄ t₅ → Wrote 4 12 (costs_start m) t₅ t₆ → Wrote 4 16 (total m k) t₆ t₇ → Wrote 4 20 0 t₇ t₈ → t₈ ≡ header e n m k ++ drop 24 t₀
unfolding header encode bytes
header_written e n m k t₀ t₁ t₂ t₃ t₄ t₅ t₆ t₇ t₈ w₁ w₂ w₃ w₄ w₅ w₆ w₇ w₈ =
    let s₁ = w₁ ∙ write_next (bytes 2 e) 2 [] t₀ t₀ 0 refl refl in
    let s₂ = w₂ ∙ write_next (bytes 2 n) 2 (bytes 2 e) t₁ t₀ 2 refl s₁ in
    let s₃ = w₃ ∙ write_next (bytes 2 m) 2 (bytes 2 e ++ bytes 2 n) t₂ t₀ 4 refl s₂ in
    let s₄ = w₄ ∙ write_next (bytes 2 k) 2 (bytes 2 e ++ (bytes 2 n ++ bytes 2 m)) t₃ t₀ 6 refl s₃ in
    let sizes = bytes 2 e ++ (bytes 2 n ++ (bytes 2 m ++ bytes 2 k)) in
    let s₅ = w₅ ∙ write_next (bytes 4 24) 4 sizes t₄ t₀ 8 refl s₄ in
    let s₆ = w₆ ∙ write_next (bytes 4 (costs_start m)) 4 (sizes ++ bytes 4 24) t₅ t₀ 12 refl s₅ in
    let s₇ = w₇ ∙ write_next (bytes 4 (total m k)) 4 (sizes ++ (bytes 4 24 ++ bytes 4 (costs_start m))) t₆ t₀ 16 refl s₆ in
    w₈ ∙ write_next (bytes 4 0) 4 (sizes ++ (bytes 4 24 ++ (bytes 4 (costs_start m) ++ bytes 4 (total m k)))) t₇ t₀ 20 refl s₇

-- ---- the whole image
pub length_header : (e n m k : ℕ) → length (header e n m k) ≡ 24
unfolding header encode bytes
length_header e n m k = refl

module _ (e n k : ℕ) (nodes costs : List ℕ) (even : length nodes % 2 ≡ 0) (counted : length costs ≡ half nodes * k) where
  pub twice_half : 2 * length nodes ≡ 4 * half nodes
  unfolding half
  twice_half = omega (arith, div-add-mod (length nodes) 2)

  pub length_image : length (image_of e n k nodes costs) ≡ total (half nodes) k
  unfolding image_of total costs_start
  length_image = simp (length-append, length_header, length_encode) (omega (arith, twice_half, counted))

  -- the header, the nodes and the costs, one after another
  pub image_written : (t₀ t₁ t₂ t₃ : List ℕ) → t₁ ≡ header e n (half nodes) k ++ drop 24 t₀
      → t₂ ≡ take 24 t₁ ++ (encode 2 nodes ++ drop (24 + 2 * length nodes) t₁)
      → t₃ ≡ take (costs_start (half nodes)) t₂ ++ (encode 4 costs ++ drop (costs_start (half nodes) + 4 * length costs) t₂)
      → t₃ ≡ image_of e n k nodes costs ++ drop (length (image_of e n k nodes costs)) t₀
  unfolding image_of
  image_written t₀ t₁ t₂ t₃ e₁ e₂ e₃ =
      let h = header e n (half nodes) k in
      let s₂ = e₂ ∙ write_next (encode 2 nodes) (2 * length nodes) h t₁ t₀ 24 (length_header e n (half nodes) k) e₁ in
      let at : 24 + 2 * length nodes ≡ costs_start (half nodes) = omega (arith, twice_half, costs_start_is (half nodes)) in
      let long : length (h ++ encode 2 nodes) ≡ costs_start (half nodes) = rw (length-append, length_header e n (half nodes) k, length_encode 2 nodes) at in
      let s₃ = e₃ ∙ write_next (encode 4 costs) (4 * length costs) (h ++ encode 2 nodes) t₂ t₀ (costs_start (half nodes)) long (s₂ ∙ rw at) in
      let end : costs_start (half nodes) + 4 * length costs ≡ length (image_of e n k nodes costs) = omega (arith, length_image, total_is (half nodes) k, counted) in
      s₃ ∙ ap₂ (λ (l : List ℕ) (i : ℕ). l ++ drop i t₀) (append_assoc h (encode 2 nodes) (encode 4 costs)) end
