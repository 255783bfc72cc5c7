-- The heads, and where the arcs out of each node begin, read in a star. Assumes nothing.
use Prim.Native.Nat.{ℕ, ◌+◌, ◌*◌, ◌-◌, ◌≤◌, ◌<◌}
use native.Mathlib.Omega.{arith}
use mathlib.Core.Path.{◌≡◌, sym, ◌∙◌, ap, subst, subst₂}
use mathlib.Core.Bool.{Bool}
use mathlib.Core.List.{List}
use lib.ListN.{length, get_or, drop, length-drop}
use lib.Seq.{length-take-le, get_or-take, get_or-drop}
use Rattle.star.specs.Layout.{heads_of, outs_of}
use Rattle.descent.specs.Rows.{Rows, Drops, Lengthened}
use Rattle.descent.specs.Tables.{Fits}
use Rattle.descent.proofs.RowLaws.{row_in}

module _ {arcs places : ℕ} {star costs labels bests : List ℕ} (F : Fits arcs places star costs labels bests) where
  pub heads_long : length (heads_of arcs star) ≡ arcs
  unfolding heads_of
  heads_long = let e : 2 * arcs - arcs ≡ arcs = omega arith in length-take-le (2 * arcs - arcs) (drop arcs star) (omega (arith, length-drop arcs star, F.star_long)) ∙ e

  pub head_at : (i : ℕ) → i < arcs → get_or star (arcs + i) 0 ≡ get_or (heads_of arcs star) i 0
  unfolding heads_of
  head_at i h = sym (get_or-take (2 * arcs - arcs) (drop arcs star) i 0 (omega arith) ∙ get_or-drop arcs star i 0)

  -- node h is the head of arc i
  module _ {i h : ℕ} (l : i < arcs) (e : h ≡ get_or star (arcs + i) 0) where
    pub head_is : h ≡ get_or (heads_of arcs star) i 0
    head_is = e ∙ head_at i l

    pub head_from : 1 ≤ h
    head_from = omega (arith, head_is, F.ground.head_from i (omega (arith, heads_long)))

    pub head_in : h < places
    head_in = omega (arith, head_is, F.ground.head_in i (omega (arith, heads_long)))

  pub out_at : (v : ℕ) → v ≤ places → get_or star (3 * arcs + v) 0 ≡ get_or (outs_of places arcs star) v 0
  unfolding outs_of
  out_at v h = sym (get_or-take (3 * arcs + places + 1 - 3 * arcs) (drop (3 * arcs) star) v 0 (omega arith) ∙ get_or-drop (3 * arcs) star v 0)

  pub next_out_at : (v : ℕ) → v < places → get_or star (3 * arcs + v + 1) 0 ≡ get_or (outs_of places arcs star) (v + 1) 0
  next_out_at v h = let e : 3 * arcs + v + 1 ≡ 3 * arcs + (v + 1) = omega arith in ap (λ (x : ℕ). get_or star x 0) e ∙ out_at (v + 1) (omega arith)

  -- the arcs out of v begin at `from` and end before `to`
  module _ {v : ℕ} (l : v < places) where
    pub begins_at : {from : ℕ} → from ≡ get_or star (3 * arcs + v) 0 → from ≡ get_or (outs_of places arcs star) v 0
    begins_at e = e ∙ out_at v (omega arith)

    pub ends_at : {to : ℕ} → to ≡ get_or star (3 * arcs + v + 1) 0 → to ≡ get_or (outs_of places arcs star) (v + 1) 0
    ends_at e = e ∙ next_out_at v l

    pub ends_in : {to : ℕ} → to ≡ get_or star (3 * arcs + v + 1) 0 → to ≤ length (heads_of arcs star)
    ends_in e = omega (arith, ends_at e, F.ground.outs_within (v + 1) (omega arith))

  -- ---- the arcs are as many as the heads
  pub star_rows : Rows arcs places costs labels bests
  star_rows = subst (λ (m : ℕ). Rows m places costs labels bests) heads_long F.ground.rows

  -- ---- place i of column u, among the costs and among the labels
  pub cost_in : (u i : ℕ) → u < length bests → i < arcs → u * arcs + i < length costs
  cost_in u i h l = omega (arith, row_in u (length bests) arcs i h l, star_rows.costs_long)

  pub label_in : (u h : ℕ) → u < length bests → h < places → u * places + h < length labels
  label_in u h k l = omega (arith, row_in u (length bests) places h k l, star_rows.labels_long)

  pub star_drops : {i h figure : ℕ} {sums : List ℕ} {r : Bool} → h ≡ get_or (heads_of arcs star) i 0 → Drops arcs places i h costs labels bests sums figure r → Drops (length (heads_of arcs star)) places i (get_or (heads_of arcs star) i 0) costs labels bests sums figure r
  star_drops {i} {figure = figure} {sums} {r} e d = subst₂ (λ (m x : ℕ). Drops m places i x costs labels bests sums figure r) (sym heads_long) e d

  pub star_longer : {i k : ℕ} {sums sums' : List ℕ} → Lengthened arcs i k costs sums sums' → Lengthened (length (heads_of arcs star)) i k costs sums sums'
  star_longer {i} {k} {sums} {sums'} l = subst (λ (m : ℕ). Lengthened m i k costs sums sums') (sym heads_long) l
