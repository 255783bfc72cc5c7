-- Where the arcs and the columns of an accepted image's network stand among its bytes. Assumes nothing.
-- ---- parts of decoded lists
use Prim.Native.Nat.{ℕ, zero, suc, ◌+◌, ◌*◌, ◌-◌, ◌≤◌, ◌<◌}
use native.Mathlib.Omega.{arith}
use native.Mathlib.Nat.{mul-le-mul, mul-le-mul_right, mul_comm, mul-suc, suc-mul, mul-zero, zero-add, suc-add, add_comm, le-add_right}
use mathlib.Core.Path.{◌≡◌, refl, sym, ◌∙◌, ap, ap₂}
use mathlib.Core.List.{List, [], ◌∷◌, ◌++◌, append_assoc}
use lib.ListN.{length, get_or, take, drop}
use lib.Seq.{drop-drop, take-take, take-nil, take_at, drop_at, length-take-le}
use borrow.Rule.Slice.PartMut.{put_mid, Post-is}
use Rattle.terms.specs.Network.{cost_column}
use Rattle.terms.proofs.ColumnLaws.{cut_at}
use Rattle.image.specs.Bytes.{number, field, decode}
use Rattle.image.specs.Outcome.{sound}
use Rattle.image.specs.Layout.{arc_count, column_count, costs_start, nodes_in, costs_in, node_list, cost_list, net_of}
use Rattle.image.specs.Calls.{image_fault}
use Rattle.image.proofs.ByteLaws.{decode_at}
use Rattle.image.proofs.RowLaws.{pairs_at, length_pairs}
use Rattle.loading.specs.Selected.{Indices, at_places}
use Rattle.loading.proofs.SelectLaws.{index_below}
use Rattle.loading.proofs.RowLaws.{get_or_map_in}
use Rattle.image.proofs.CheckLaws.{HeaderSound, header_sound, accepted_header, total_is, costs_start_is}

field_drop : (w : ℕ) (b : List ℕ) (s i : ℕ) → field w (drop s b) i ≡ field w b (s + i)
unfolding field
field_drop w b s i = rw (drop-drop i s b)

drop_decode : (w i c : ℕ) (b : List ℕ) → drop i (decode w (i + c) b) ≡ decode w c (drop (w * i) b)
unfolding decode
drop_decode w zero c b = rw (zero-add c, mul-zero w)
drop_decode w (suc i) c b = rw (suc-add i c) (drop_decode w i c (drop w b) ∙ rw (drop-drop (w * i) w b, mul-suc w i, add_comm (w * i) w))

take_decode : (w i c : ℕ) (b : List ℕ) → i ≤ c → take i (decode w c b) ≡ decode w i b
unfolding decode
take_decode w zero c b h = refl
take_decode w (suc i) zero b h = absurd (omega arith)
take_decode w (suc i) (suc c) b h = ap (λ (t : List ℕ). number (take w b) ∷ t) (take_decode w i c (drop w b) (omega arith))

drop_take : (n m : ℕ) (b : List ℕ) → drop n (take (n + m) b) ≡ take m (drop n b)
drop_take zero m b = rw (zero-add m)
drop_take (suc n) m [] = rw (suc-add n m) (sym (take-nil m))
drop_take (suc n) m (x ∷ b) = rw (suc-add n m) (drop_take n m b)

decode_part : (w c : ℕ) (b : List ℕ) → decode w c (take (w * c) b) ≡ decode w c b
unfolding decode
decode_part w zero b = refl
decode_part w (suc c) b =
    let e : w * suc c ≡ w + w * c = mul-suc w c ∙ add_comm (w * c) w in
    rw (e, take-take w (w + w * c) b (le-add_right w (w * c)), drop_take w (w * c) b, decode_part w c (drop w b))

-- ---- of an accepted image
module _ (b : List ℕ) (accepted : image_fault b ≡ sound) where
  h : HeaderSound 2 b
  h = header_sound 2 b (accepted_header b accepted)

  pub arcs_to : arc_count b ≤ 1000
  arcs_to = h.ranges.arcs_to

  pub columns_to : column_count b ≤ 8
  columns_to = h.ranges.columns_to

  pub length_is : length b ≡ 24 + 4 * arc_count b + 4 * (arc_count b * column_count b)
  length_is = omega (arith, h.whole, total_is (arc_count b) (column_count b), costs_start_is (arc_count b))

  -- its arcs
  pub length_arcs : length (net_of b).arcs ≡ arc_count b
  unfolding net_of
  length_arcs = length_pairs (arc_count b) (node_list b)

  node_at : (i : ℕ) → i < 2 * arc_count b → get_or (node_list b) i 0 ≡ field 2 b (24 + 2 * i)
  unfolding node_list nodes_in
  node_at i l = decode_at 2 (2 * arc_count b) (drop 24 b) i l ∙ field_drop 2 b 24 (2 * i)

  pub arc_at : (i : ℕ) → i < arc_count b → get_or (net_of b).arcs i (0, 0) ≡ (field 2 b (24 + 4 * i), field 2 b (26 + 4 * i))
  unfolding net_of
  arc_at i l =
      let e : 24 + 2 * (2 * i) ≡ 24 + 4 * i = omega arith in
      let f : 24 + 2 * (2 * i + 1) ≡ 26 + 4 * i = omega arith in
      pairs_at (arc_count b) (node_list b) i l ∙ ap₂ (λ (t d : ℕ). (t, d)) (node_at (2 * i) (omega arith) ∙ ap (field 2 b) e) (node_at (2 * i + 1) (omega arith) ∙ ap (field 2 b) f)

  -- its columns: column u stands inside the image, and holds m costs
  pub length_to : length b ≤ 36024
  length_to = omega (arith, length_is, arcs_to, mul-le-mul arcs_to columns_to)

  column_end : (i : ℕ) → i < column_count b → i * arc_count b + arc_count b ≤ arc_count b * column_count b
  column_end i l =
      omega (arith, suc-mul i (arc_count b), mul-le-mul_right {m = suc i} {n = column_count b} (arc_count b) l, mul_comm (arc_count b) (column_count b))

  module _ (m u : ℕ) (m_is : m ≡ arc_count b) (from : 1 ≤ u) (to : u ≤ column_count b) where
    at_end : (u - 1) * m + m ≤ m * column_count b
    at_end = let e : m ≡ arc_count b = m_is in rw e (column_end (u - 1) (omega arith))

    pub column_inside : costs_start m + 4 * ((u - 1) * m) + 4 * m ≤ length b
    column_inside = let e : arc_count b ≡ m = sym m_is in omega (arith, at_end, costs_start_is m, rw e at length_is)

    pub column_at : cost_column (net_of b) u ≡ decode 4 m (take (4 * m) (drop (costs_start m + 4 * ((u - 1) * m)) b))
    unfolding cost_column net_of cost_list costs_in
    column_at =
        let i = u - 1 in
        let rest = m * column_count b - i * m in
        let count : m * column_count b ≡ i * m + rest = omega (arith, at_end) in
        let e : arc_count b ≡ m = sym m_is in
        cut_at (column_count b) (arc_count b) (cost_list b) i (omega arith)
        ∙ rw (e, count, drop_decode 4 (i * m) rest (drop (costs_start m) b), take_decode 4 m rest (drop (4 * (i * m)) (drop (costs_start m) b)) (omega (arith, at_end)), drop-drop (4 * (i * m)) (costs_start m) b, decode_part 4 m (drop (costs_start m + 4 * (i * m)) b))

-- ---- column after column
pub column_fits : (m k u : ℕ) → u < k → u * m + m ≤ m * k
column_fits m k u h = omega (arith, suc-mul u m, mul-le-mul_right {m = suc u} {n = k} m h, mul_comm m k)

-- no column is put in yet
pub none_put : (m : ℕ) (all old : List ℕ) → old ≡ take (0 * m) all ++ drop (0 * m) old
none_put m all old = let z : 0 * m ≡ 0 = omega arith in rw z refl

take_more : (a m : ℕ) (l : List ℕ) → take a l ++ take m (drop a l) ≡ take (a + m) l
take_more zero m l = rw (zero-add m) refl
take_more (suc a) m [] = rw (suc-add a m) (take-nil m)
take_more (suc a) m (x ∷ l) = rw (suc-add a m) (ap (λ (t : List ℕ). x ∷ t) (take_more a m l))

-- the first u columns stand; the next is put in
pub column_put : (m : ℕ) (all old now new : List ℕ) (u : ℕ) → u * m + m ≤ length all → now ≡ take (u * m) all ++ drop (u * m) old → new ≡ take m (drop (u * m) all)
    → put_mid (u * m) (u * m + m - u * m) now new ≡ take ((u + 1) * m) all ++ drop ((u + 1) * m) old
column_put m all old now new u h e z =
    let a = u * m in
    let long = length-take-le a all (omega arith) in
    let first : take a now ≡ take a all = ap (take a) e ∙ take_at (take a all) (drop a old) a long in
    let same : drop a now ≡ drop a old = ap (drop a) e ∙ drop_at (take a all) (drop a old) a long in
    let step : a + m ≡ (u + 1) * m = omega arith in
    ap₂ (λ (x y : List ℕ). x ++ y) first (ap₂ (λ (x y : List ℕ). x ++ y) z (ap (drop (a + m - a)) same ∙ Post-is a (a + m) old (omega arith)))
    ∙ sym (append_assoc (take a all) (take m (drop a all)) (drop (a + m) old))
    ∙ ap (λ (x : List ℕ). x ++ drop (a + m) old) (take_more a m all)
    ∙ ap (λ (i : ℕ). take i all ++ drop i old) step

-- a cost that is picked by its index
pub picked_cost : (m : ℕ) (l ks : List ℕ) → Indices m ks → (i : ℕ) → i < length ks → get_or (at_places ks (decode 4 m l)) i 0 ≡ field 4 l (4 * get_or ks i 0)
picked_cost m l ks I i h = get_or_map_in (λ j. get_or (decode 4 m l) j 0) ks i 0 0 h ∙ decode_at 4 m l (get_or ks i 0) (index_below I i h)
