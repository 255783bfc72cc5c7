-- Images written from lists read back as those lists, and an accepted image's lists write that image again. Assumes nothing.
-- ---- from lists to an image and back
-- the header's numbers read back from whatever follows it
use Prim.Native.Nat.{ℕ, zero, suc, ◌+◌, ◌*◌, ◌%◌, ◌^◌, ◌≤◌, ◌<◌}
use native.Mathlib.Omega.{arith}
use mathlib.Core.Path.{◌≡◌, refl, sym, ◌∙◌, ap}
use mathlib.Core.Bool.{true}
use mathlib.Core.Logic.{◌⊎◌, inl, inr, ⊎_elim}
use mathlib.Core.List.Memᴰ
use mathlib.Core.List.{List, [], ◌∷◌, ◌++◌, append_assoc, append-nil}
use lib.Dec.{eqb}
use lib.ListN.{length, take, drop, length-append, length-drop, take-append-drop}
use lib.Seq.{drop_at, take-add, take_all, drop-drop}
use borrow.Author.Tests.{eq-eqb, eqb-true, le-ltb}
use Rattle.terms.specs.Lists.{◌∈◌}
use Rattle.terms.specs.Network.{ArcOf, Cost, at_most, marked}
use Rattle.terms.proofs.ListLaws.{and_both}
use Rattle.image.specs.Bytes.{number, bytes, field, decode, encode}
use Rattle.image.specs.Outcome.{sound, row, gives}
use Rattle.image.specs.Rows.{pairs, arcs_fault, costs_fault, lists_fault}
use Rattle.image.specs.Layout.{edition, node_count, arc_count, column_count, costs_start, total, fields_right, nodes_in, costs_in, node_list, cost_list, header, half, image_of}
use Rattle.image.specs.Calls.{header_fault, taken_fault, image_fault, check_outcome}
use Rattle.packing.specs.Calls.{build_fault, build_outcome}
use Rattle.packing.specs.RoundTrip.{ReadsBack, WritesAgain}
use Rattle.image.proofs.OutcomeLaws.{then_next, then_sound, outcome_sound}
use Rattle.image.proofs.ByteLaws.{AllBytes, number_bytes, drop_bytes, field_bytes, decode_encode, encode_decode, length_encode, length_decode}
use Rattle.image.proofs.CheckLaws.{HeaderSound, header_sound, accepted_header, rows_pass, same_sizes, range_in, total_to, total_is, costs_start_is}
use Rattle.packing.proofs.BuildLaws.{BuildSound, edition_to, lists_decide, length_header, length_image, twice_half}
use Rattle.image.proofs.NetworkLaws.{sound_arcs, sound_costs}

module _ (e n m k : ℕ) (r : List ℕ) (e-fits : e < 65536) (n-fits : n < 65536) (m-fits : m < 65536) (k-fits : k < 65536) where
  edition_back : edition (header e n m k ++ r) ≡ e
  unfolding edition field number header encode bytes
  edition_back = number_bytes 2 e e-fits

  nodes_back_count : node_count (header e n m k ++ r) ≡ n
  unfolding node_count field number header encode bytes
  nodes_back_count = number_bytes 2 n n-fits

  arcs_back_count : arc_count (header e n m k ++ r) ≡ m
  unfolding arc_count field number header encode bytes
  arcs_back_count = number_bytes 2 m m-fits

  columns_back_count : column_count (header e n m k ++ r) ≡ k
  unfolding column_count field number header encode bytes
  columns_back_count = number_bytes 2 k k-fits

  fields_back : total m k < 4294967296 → fields_right (header e n m k ++ r) m k ≡ true
  unfolding fields_right field number header encode bytes
  fields_back h = rw (eq-eqb _ _ (number_bytes 4 (costs_start m) (omega (arith, total_is m k))), eq-eqb _ _ (number_bytes 4 (total m k) h))

-- each node of a list of arcs is an end of one of them
ends_of : (m : ℕ) (l : List ℕ) → length l ≡ 2 * m → {x : ℕ} → x ∈ l → (a : ℕ × ℕ) × (a ∈ pairs m l) × ((x ≡ a.0) ⊎ (x ≡ a.1))
unfolding pairs
ends_of zero [] h o = elim o [ ]
ends_of zero (t ∷ l) h o = absurd (omega arith)
ends_of (suc m) [] h o = elim o [ ]
ends_of (suc m) (t ∷ []) h o = absurd (omega arith)
ends_of (suc m) (t ∷ d ∷ l) h {x} o = ⊎_elim (λ e. ((t, d), Memᴰ.head refl, inl e)) (λ o'. ⊎_elim (λ e. ((t, d), Memᴰ.head refl, inr e)) (λ o''. later (ends_of m l (omega arith) o'')) (Memᴰ.cases_cons o')) (Memᴰ.cases_cons o)
  where
    later : (a : ℕ × ℕ) × (a ∈ pairs m l) × ((x ≡ a.0) ⊎ (x ≡ a.1)) → (a : ℕ × ℕ) × (a ∈ (t, d) ∷ pairs m l) × ((x ≡ a.0) ⊎ (x ≡ a.1))
    later (a, i, e) = (a, Memᴰ.tail i, e)

module _ (e n k : ℕ) (nodes costs : List ℕ) (room : ℕ) (passes : BuildSound e n k nodes costs room) where
  body : List ℕ
  body = encode 2 nodes ++ encode 4 costs

  lists : (arcs_fault n (0, 0) 0 (pairs (half nodes) nodes) ≡ sound) × (costs_fault e 0 costs ≡ sound)
  unfolding lists_fault
  lists = then_sound _ _ passes.lists

  pair_up : length nodes ≡ 2 * half nodes
  pair_up = omega (arith, twice_half e n k nodes costs passes.even passes.counted)

  -- nodes are at most 200, and costs at most 1,000,000 or the mark, so they fit their bytes
  nodes_fit : (x : ℕ) → x ∈ nodes → x < 256 ^ 2
  nodes_fit x o = small (ends_of (half nodes) nodes pair_up o)
    where
      arc_of : (a : ℕ × ℕ) → a ∈ pairs (half nodes) nodes → ArcOf n a
      arc_of = (sound_arcs n (0, 0) 0 (pairs (half nodes) nodes) lists.0).0

      small : (a : ℕ × ℕ) × (a ∈ pairs (half nodes) nodes) × ((x ≡ a.0) ⊎ (x ≡ a.1)) → x < 256 ^ 2
      small (a, i, e) = ⊎_elim (λ t. omega (arith, (arc_of a i).tail_to, passes.ranges.nodes_to)) (λ h. omega (arith, (arc_of a i).head_to, passes.ranges.nodes_to)) e

  costs_fit : (x : ℕ) → x ∈ costs → x < 256 ^ 4
  costs_fit x o = small (sound_costs e 0 costs lists.1 x o)
    where
      small : Cost e x → x < 256 ^ 4
      small (at_most h) = omega arith
      small (marked f h) = omega arith

  -- the header's numbers
  e_small : e < 65536
  e_small = omega (arith, edition_to e passes.taken)

  n_small : n < 65536
  n_small = omega (arith, passes.ranges.nodes_to)

  m_small : half nodes < 65536
  m_small = omega (arith, passes.ranges.arcs_to)

  k_small : k < 65536
  k_small = omega (arith, passes.ranges.columns_to)

  e_back : edition (image_of e n k nodes costs) ≡ e
  unfolding image_of body
  e_back = edition_back e n (half nodes) k body e_small n_small m_small k_small

  n_back : node_count (image_of e n k nodes costs) ≡ n
  unfolding image_of body
  n_back = nodes_back_count e n (half nodes) k body e_small n_small m_small k_small

  m_back : arc_count (image_of e n k nodes costs) ≡ half nodes
  unfolding image_of body
  m_back = arcs_back_count e n (half nodes) k body e_small n_small m_small k_small

  k_back : column_count (image_of e n k nodes costs) ≡ k
  unfolding image_of body
  k_back = columns_back_count e n (half nodes) k body e_small n_small m_small k_small

  -- the lists
  read_nodes : node_list (image_of e n k nodes costs) ≡ nodes
  unfolding node_list nodes_in image_of
  read_nodes =
      rw (m_back, ← pair_up, drop_at (header e n (half nodes) k) (encode 2 nodes ++ encode 4 costs) 24 (length_header e n (half nodes) k)) (decode_encode 2 nodes (encode 4 costs) nodes_fit)

  costs_behind : drop (costs_start (half nodes)) (image_of e n k nodes costs) ≡ encode 4 costs ++ []
  unfolding image_of
  costs_behind =
      let h = header e n (half nodes) k in
      let long : length (h ++ encode 2 nodes) ≡ costs_start (half nodes) = rw (length-append, length_header e n (half nodes) k, length_encode 2 nodes) (omega (arith, pair_up, costs_start_is (half nodes))) in
      ap (drop (costs_start (half nodes))) (sym (append_assoc h (encode 2 nodes) (encode 4 costs))) ∙ drop_at (h ++ encode 2 nodes) (encode 4 costs) (costs_start (half nodes)) long ∙ sym (append-nil (encode 4 costs))

  read_costs : cost_list (image_of e n k nodes costs) ≡ costs
  unfolding cost_list costs_in
  read_costs = rw (m_back, k_back, ← passes.counted) (ap (decode 4 (length costs)) costs_behind ∙ decode_encode 4 costs [] costs_fit)

  -- and Check passes
  whole : length (image_of e n k nodes costs) ≡ total (half nodes) k
  whole = length_image e n k nodes costs passes.even passes.counted

  fields : fields_right (image_of e n k nodes costs) (half nodes) k ≡ true
  unfolding image_of body
  fields = fields_back e n (half nodes) k body e_small n_small m_small k_small (omega (arith, total_to passes.ranges.arcs_to passes.ranges.columns_to))

  header_passes : header_fault 2 (image_of e n k nodes costs) ≡ sound
  header_passes =
      rows_pass 2 (image_of e n k nodes costs) (omega (arith, whole, total_is (half nodes) k, costs_start_is (half nodes))) (rw e_back passes.taken) (rw (n_back, m_back, k_back) (range_in passes.ranges)) (rw (m_back, k_back) fields) (rw (m_back, k_back) whole)

  image_passes : image_fault (image_of e n k nodes costs) ≡ sound
  unfolding image_fault taken_fault
  image_passes = then_next _ header_passes ∙ rw (e_back, n_back, m_back, read_nodes, read_costs) passes.lists

  pub reads_back : ReadsBack e n k nodes costs
  unfolding check_outcome
  reads_back =
      record { sizes_back = outcome_sound _ image_passes ∙ ap gives (sym (same_sizes (image_of e n k nodes costs) (record { n_is = sym n_back; m_is = sym m_back; k_is = sym k_back; e_is = sym e_back }))); nodes_back = read_nodes; costs_back = read_costs }

-- ---- from an image to lists and back
module _ (b : List ℕ) (accepted : image_fault b ≡ sound) (all : AllBytes b) where
  h : HeaderSound 2 b
  h = header_sound 2 b (accepted_header b accepted)

  half_is : half (node_list b) ≡ arc_count b
  unfolding half node_list nodes_in
  half_is = rw (length_decode 2 (2 * arc_count b) (drop 24 b)) (omega arith)

  -- one field more of the header
  next_field : (w x : ℕ) (p : List ℕ) (i : ℕ) → p ≡ take i b → x ≡ field w b i → i + w ≤ length b → p ++ bytes w x ≡ take (i + w) b
  next_field w x p i e f l =
      let q : x ≡ field w b i = f in
      rw (e, q, field_bytes w b i all l) (sym (take-add i w b))

  fields_are : (field 4 b 8 ≡ 24) × (field 4 b 12 ≡ costs_start (arc_count b)) × (field 4 b 16 ≡ total (arc_count b) (column_count b)) × (field 4 b 20 ≡ 0)
  unfolding fields_right
  fields_are =
      let e₁ = and_both (eqb (field 4 b 8) 24) _ h.fields in
      let e₂ = and_both (eqb (field 4 b 12) (costs_start (arc_count b))) _ e₁.1 in
      let e₃ = and_both (eqb (field 4 b 16) (total (arc_count b) (column_count b))) (eqb (field 4 b 20) 0) e₂.1 in
      (eqb-true _ _ e₁.0, eqb-true _ _ e₂.0, eqb-true _ _ e₃.0, eqb-true _ _ e₃.1)

  header_again : header (edition b) (node_count b) (arc_count b) (column_count b) ≡ take 24 b
  unfolding header encode bytes edition node_count arc_count column_count
  header_again =
      let long = h.long in
      let e₁ = next_field 2 (edition b) [] 0 refl refl (omega arith) in
      let e₂ = next_field 2 (node_count b) _ 2 e₁ refl (omega arith) in
      let e₃ = next_field 2 (arc_count b) _ 4 e₂ refl (omega arith) in
      let e₄ = next_field 2 (column_count b) _ 6 e₃ refl (omega arith) in
      let e₅ = next_field 4 24 _ 8 e₄ (sym fields_are.0) (omega arith) in
      let e₆ = next_field 4 (costs_start (arc_count b)) _ 12 e₅ (sym fields_are.1) (omega arith) in
      let e₇ = next_field 4 (total (arc_count b) (column_count b)) _ 16 e₆ (sym fields_are.2) (omega arith) in
      next_field 4 0 _ 20 e₇ (sym fields_are.3) (omega arith)

  -- the lists' bytes are those that stand behind the header
  nodes_again : encode 2 (node_list b) ≡ take (4 * arc_count b) (drop 24 b)
  unfolding node_list nodes_in
  nodes_again =
      let e : 2 * (2 * arc_count b) ≡ 4 * arc_count b = omega arith in
      encode_decode 2 (2 * arc_count b) (drop 24 b) (drop_bytes 24 b all) (omega (arith, length-drop 24 b, h.whole, total_is (arc_count b) (column_count b), costs_start_is (arc_count b))) ∙ rw e

  costs_again : encode 4 (cost_list b) ≡ drop (costs_start (arc_count b)) b
  unfolding cost_list costs_in
  costs_again =
      let rest = drop (costs_start (arc_count b)) b in
      let size : length rest ≡ 4 * (arc_count b * column_count b) = omega (arith, length-drop (costs_start (arc_count b)) b, h.whole, total_is (arc_count b) (column_count b)) in
      encode_decode 4 (arc_count b * column_count b) rest (drop_bytes (costs_start (arc_count b)) b all) (omega arith) ∙ take_all (4 * (arc_count b * column_count b)) rest (omega arith)

  same : image_of (edition b) (node_count b) (column_count b) (node_list b) (cost_list b) ≡ b
  unfolding image_of
  same =
      rw (half_is, header_again, nodes_again, costs_again, costs_start_is (arc_count b), ← drop-drop (4 * arc_count b) 24 b, take-append-drop (4 * arc_count b) (drop 24 b), take-append-drop 24 b)

  -- and Build passes
  counted : length (cost_list b) ≡ arc_count b * column_count b
  unfolding cost_list costs_in
  counted = length_decode 4 (arc_count b * column_count b) (drop (costs_start (arc_count b)) b)

  even : length (node_list b) % 2 ≡ 0
  unfolding node_list nodes_in
  even = rw (length_decode 2 (2 * arc_count b) (drop 24 b)) (omega arith)

  lists_pass : lists_fault (edition b) (node_count b) (pairs (arc_count b) (node_list b)) (cost_list b) ≡ sound
  unfolding image_fault taken_fault
  lists_pass = (then_sound _ _ accepted).1

  build_passes : (room : ℕ) → length b ≤ room → build_fault (edition b) (node_count b) (column_count b) (node_list b) (cost_list b) room ≡ sound
  unfolding row
  build_passes room l =
      lists_decide _ _ _ _ _ room h.taken (rw half_is (range_in h.ranges)) even (counted ∙ rw half_is)
      ∙ rw (half_is, then_next _ lists_pass, le-ltb room (total (arc_count b) (column_count b)) (omega (arith, h.whole)))

  pub writes_again : WritesAgain b
  unfolding build_outcome
  writes_again =
      record { built_again = λ room l. outcome_sound _ (build_passes room l) ∙ rw (half_is, h.whole); same_image = same }
