-- Update: the row that applies, and what holds of an image after a list of records. Assumes nothing.
use Prim.Native.Nat.{ℕ, zero, suc, ◌+◌, ◌*◌, ◌-◌, ◌/◌, ◌%◌, ◌^◌, ◌≤◌, ◌<◌}
use native.Mathlib.Omega.{arith}
use native.Mathlib.Nat.{mul-suc}
use mathlib.Core.Path.{◌≡◌, refl, sym, ◌∙◌, ap, ap₂}
use mathlib.Core.Bool.{Bool, true, false, cond}
use mathlib.Core.List.Memᴰ
use mathlib.Core.List.{List, [], ◌∷◌, ◌++◌, append-nil}
use mathlib.Core.Option.{Option, none, some}
use lib.Dec.{leb}
use lib.ListN.{length, get_or, take, drop, length-append, length-drop, take-append-drop, drop_of_length-le}
use lib.Seq.{take-append-le, drop-append-le, drop_at, length-take-le, take_all}
use borrow.Author.Tests.{le-leb, lt-leb, eq-eqb, ne_eqb, not-false}
use Rattle.terms.specs.Lists.{◌∈◌}
use Rattle.terms.specs.Network.{Cost, at_most, marked}
use Rattle.terms.proofs.ListLaws.{by_cond}
use Rattle.image.specs.Bytes.{number, field, decode, encode}
use Rattle.image.specs.Outcome.{Fault, sound, fault, row, after}
use Rattle.image.specs.Rows.{is_cost, pairs, arcs_fault, costs_fault, lists_fault}
use Rattle.image.specs.Layout.{edition, node_count, arc_count, column_count, costs_start, total, fields_right, nodes_in, costs_in, node_list, cost_list}
use Rattle.image.specs.Calls.{taken_fault, image_fault}
use Rattle.image.proofs.OutcomeLaws.{then_next, then_sound, row_sound, after_sound}
use Rattle.image.proofs.ByteLaws.{AllBytes, drop_bytes, decode_encode, encode_decode, length_encode, length_decode}
use Rattle.image.proofs.CheckLaws.{Sized, HeaderSound, header_sound, accepted_header, rows_pass, range_in, total_is, costs_start_is}
use Rattle.image.proofs.NetworkLaws.{sound_costs}
use Rattle.record_calls.specs.Records.{Record, record_list, is_about, counting, winner, cost_after, costs_after, image_after}
use Rattle.record_calls.specs.Calls.{records_fault, lower, both_fault, update_fault}
use Rattle.record_calls.specs.Updates.{told, Agree, Updates}
use Rattle.record_calls.proofs.RecordLaws.{AllFit, no_more, one_more, all_fit, place_to, arc_back, column_back}
use Rattle.record_calls.proofs.StepLaws.{length_costs_after, after_at}
use Rattle.record_calls.proofs.WinnerLaws.{winning}

-- ---- row 4 among the image's own
lower_sound : (f : Fault) → lower f sound ≡ f
unfolding lower
lower_sound sound = refl
lower_sound (fault n p) = refl

module _ (b l : List ℕ) where
  pub fours : length l % 4 ≡ 0 → both_fault b l ≡ image_fault b
  unfolding both_fault row
  fours h = rw (eq-eqb (length l % 4) 0 h) (lower_sound (image_fault b))

  early : (t : Bool) {n p : ℕ} → n ≤ 4 → lower (fault n p) (row 4 0 t) ≡ fault n p
  unfolding row lower
  early true {n} h = rw (le-leb n 4 h)
  early false h = refl

  pub image_first : {n p : ℕ} → image_fault b ≡ fault n p → n ≤ 4 → both_fault b l ≡ fault n p
  unfolding both_fault
  image_first e h = rw e (early _ h)

  module _ (odd : length l % 4 ≡ 0 → ⊥) where
    pub only_list : image_fault b ≡ sound → both_fault b l ≡ fault 4 0
    unfolding both_fault row lower
    only_list e = rw (ne_eqb (length l % 4) 0 odd, e)

    pub list_first : {n p : ℕ} → image_fault b ≡ fault n p → 4 < n → both_fault b l ≡ fault 4 0
    unfolding both_fault row lower
    list_first {n} e h = rw (ne_eqb (length l % 4) 0 odd, e, lt-leb n 4 h)

-- the lower of two rows is none only if neither applies
lower_none : (f g : Fault) → lower f g ≡ sound → (f ≡ sound) × (g ≡ sound)
unfolding lower
lower_none sound g e = (refl, e)
lower_none (fault n p) sound e = let z : ◌≡◌ {A = ℕ} 0 1 = cc in absurd (omega arith)
lower_none (fault n p) (fault n' p') e = absurd (never (leb n n') e)
  where
    never : (t : Bool) → cond t (fault n p) (fault n' p') ≡ sound → ⊥
    never true e = let z : ◌≡◌ {A = ℕ} 0 1 = cc in omega arith
    never false e = let z : ◌≡◌ {A = ℕ} 0 1 = cc in omega arith

pub both_sound : (b l : List ℕ) → both_fault b l ≡ sound → image_fault b ≡ sound
unfolding both_fault
both_sound b l e = (lower_none _ _ e).0

-- ---- the costs of winners
data Allowed (e : ℕ) : Option Record → Type 0 where
  nobody : Allowed e none
  allowed : {s : Record} → is_cost e s.cost ≡ true → Allowed e (some s)

counting_allowed : {e : ℕ} (r : Record) {w : Option Record} → is_cost e r.cost ≡ true → Allowed e w → Allowed e (some (counting r w))
unfolding counting
counting_allowed r h nobody = allowed h
counting_allowed {e} r h (allowed {s} h') = by_cond (λ (x : Record). Allowed e (some x)) (leb r.stamp s.stamp) (λ t. allowed h') (λ t. allowed h)

winner_allowed : {e m k : ℕ} {l : List Record} → AllFit e m k l → (arc column : ℕ) → Allowed e (winner arc column l)
unfolding winner
winner_allowed no_more arc column = nobody
winner_allowed {e} (one_more {r} f all) arc column =
    by_cond (Allowed e) (is_about arc column r) (λ t. counting_allowed r f.cost_is (winner_allowed all arc column)) (λ t. winner_allowed all arc column)

cost_allowed : {e : ℕ} {w : Option Record} (c : ℕ) → Allowed e w → is_cost e c ≡ true → is_cost e (cost_after w c) ≡ true
unfolding cost_after
cost_allowed c nobody h = h
cost_allowed c (allowed h') h = h'

pub costs_pass : {e m k : ℕ} {l : List Record} → AllFit e m k l → (i : ℕ) (costs : List ℕ) → costs_fault e i costs ≡ sound → costs_fault e i (costs_after m l i costs) ≡ sound
unfolding costs_fault costs_after row
costs_pass all i [] h = refl
costs_pass {e} {m} {k} {l} all i (c ∷ costs) h =
    let h₁ = then_sound _ _ h in
    let ok = cost_allowed c (winner_allowed all (i % m) (i / m + 1)) (not-false _ (row_sound 9 i _ h₁.0)) in
    then_next _ (rw ok) ∙ costs_pass all (suc i) costs h₁.1

-- ---- bytes before the costs
field_head : (w : ℕ) (h r s : List ℕ) (i : ℕ) → i + w ≤ length h → field w (h ++ r) i ≡ field w (h ++ s) i
unfolding field
field_head w h r s i le =
    let long : w ≤ length (drop i h) = omega (arith, length-drop i h) in
    ap number (first r long ∙ sym (first s long))
  where
    first : (t : List ℕ) → w ≤ length (drop i h) → take w (drop i (h ++ t)) ≡ take w (drop i h)
    first t long = ap (take w) (drop-append-le i h t (omega arith)) ∙ take-append-le w (drop i h) t long

decode_head : (w c : ℕ) (h r s : List ℕ) → w * c ≤ length h → decode w c (h ++ r) ≡ decode w c (h ++ s)
unfolding decode
decode_head w zero h r s le = refl
decode_head w (suc c) h r s le =
    let long : w * c + w ≤ length h = rw mul-suc at le in
    ap₂ (λ (x : ℕ) (t : List ℕ). x ∷ t) (ap number (take-append-le w h r (omega arith) ∙ sym (take-append-le w h s (omega arith)))) (ap (decode w c) (drop-append-le w h r (omega arith)) ∙ decode_head w c (drop w h) r s (omega (arith, length-drop w h)) ∙ ap (decode w c) (sym (drop-append-le w h s (omega arith))))

-- ---- what is told
told_cost : (w : Option Record) (c : ℕ) → cost_after w c ≡ get_or (told w) 0 c
unfolding cost_after told
told_cost none c = refl
told_cost (some r) c = refl

agree_costs : (m : ℕ) (l r : List Record) → Agree l r → (i : ℕ) (costs : List ℕ) → costs_after m l i costs ≡ costs_after m r i costs
unfolding costs_after
agree_costs m l r same i [] = refl
agree_costs m l r same i (c ∷ costs) =
    ap₂ (λ (x : ℕ) (t : List ℕ). x ∷ t) (told_cost _ c ∙ ap (λ (t : List ℕ). get_or t 0 c) (same (i % m) (i / m + 1)) ∙ sym (told_cost _ c)) (agree_costs m l r same (suc i) costs)

winner_none : (arc column : ℕ) (l : List Record) → ((r : Record) → r ∈ l → is_about arc column r ≡ false) → winner arc column l ≡ none
unfolding winner
winner_none arc column [] all = refl
winner_none arc column (r ∷ l) all = rw (all r (Memᴰ.head refl)) (winner_none arc column l (λ s m. all s (Memᴰ.tail m)))

-- ---- the image after an accepted list
module _ (b : List ℕ) (accepted : image_fault b ≡ sound) where
  h : HeaderSound 2 b
  h = header_sound 2 b (accepted_header b accepted)

  m : ℕ
  m = arc_count b

  k : ℕ
  k = column_count b

  -- what stands before the costs, and what stands there in place of the costs
  head : List ℕ
  head = take (costs_start m) b

  length_is : length b ≡ 24 + 4 * m + 4 * (m * k)
  unfolding m k
  length_is = omega (arith, h.whole, total_is (arc_count b) (column_count b), costs_start_is (arc_count b))

  head_long : length head ≡ costs_start m
  unfolding head
  head_long = length-take-le (costs_start m) b (omega (arith, length_is, costs_start_is m))

  apart : head ++ drop (costs_start m) b ≡ b
  unfolding head
  apart = take-append-drop (costs_start m) b

  pub cost_count : length (cost_list b) ≡ arc_count b * column_count b
  unfolding cost_list costs_in
  cost_count = length_decode 4 (arc_count b * column_count b) (drop (costs_start (arc_count b)) b)

  -- the bytes of the costs are those that stand there
  pub image_is : AllBytes b → b ≡ take (costs_start (arc_count b)) b ++ encode 4 (cost_list b)
  unfolding cost_list costs_in m k
  image_is all =
      let rest = drop (costs_start (arc_count b)) b in
      let size : length rest ≡ 4 * (arc_count b * column_count b) = omega (arith, length-drop (costs_start (arc_count b)) b, length_is, costs_start_is (arc_count b)) in
      let same : encode 4 (decode 4 (arc_count b * column_count b) rest) ≡ rest = encode_decode 4 (arc_count b * column_count b) rest (drop_bytes (costs_start (arc_count b)) b all) (omega arith) ∙ take_all (4 * (arc_count b * column_count b)) rest (omega arith) in
      sym (ap (λ (t : List ℕ). take (costs_start (arc_count b)) b ++ t) same ∙ take-append-drop (costs_start (arc_count b)) b)

  lists : (arcs_fault (node_count b) (0, 0) 0 (pairs (arc_count b) (node_list b)) ≡ sound) × (costs_fault (edition b) 0 (cost_list b) ≡ sound)
  unfolding image_fault taken_fault lists_fault
  lists = then_sound _ _ (then_sound _ _ accepted).1

  module _ (records : List Record) (all : AllFit (edition b) (arc_count b) (column_count b) records) where
    new : List ℕ
    new = costs_after m records 0 (cost_list b)

    new_long : length new ≡ m * k
    unfolding new m k
    new_long = length_costs_after (arc_count b) records 0 (cost_list b) ∙ cost_count

    image : List ℕ
    image = image_after b records

    image_holds : image ≡ head ++ encode 4 new
    unfolding image image_after head new m
    image_holds = refl

    length_same : length image ≡ length b
    length_same =
        ap length image_holds ∙ length-append head (encode 4 new) ∙ omega (arith, head_long, length_encode 4 new, new_long, length_is, costs_start_is m)

    field_same : (w i : ℕ) → i + w ≤ 24 → field w image i ≡ field w b i
    field_same w i le =
        ap (λ (t : List ℕ). field w t i) image_holds ∙ field_head w head (encode 4 new) (drop (costs_start m) b) i (omega (arith, head_long, costs_start_is m)) ∙ ap (λ (t : List ℕ). field w t i) apart

    e_same : edition image ≡ edition b
    unfolding edition
    e_same = field_same 2 0 (omega arith)

    n_same : node_count image ≡ node_count b
    unfolding node_count
    n_same = field_same 2 2 (omega arith)

    m_same : arc_count image ≡ arc_count b
    unfolding arc_count
    m_same = field_same 2 4 (omega arith)

    k_same : column_count image ≡ column_count b
    unfolding column_count
    k_same = field_same 2 6 (omega arith)

    fields_same : (x y : ℕ) → fields_right image x y ≡ fields_right b x y
    unfolding fields_right
    fields_same x y = rw (field_same 4 8 (omega arith), field_same 4 12 (omega arith), field_same 4 16 (omega arith), field_same 4 20 (omega arith))

    nodes_same : node_list image ≡ node_list b
    unfolding node_list nodes_in m
    nodes_same =
        let long : 24 ≤ length head = omega (arith, head_long, costs_start_is (arc_count b)) in
        ap (λ (x : ℕ). decode 2 (2 * x) (drop 24 image)) m_same
        ∙ ap (λ (t : List ℕ). decode 2 (2 * arc_count b) (drop 24 t)) image_holds
        ∙ ap (decode 2 (2 * arc_count b)) (drop-append-le 24 head (encode 4 new) long)
        ∙ decode_head 2 (2 * arc_count b) (drop 24 head) (encode 4 new) (drop (costs_start m) b) (omega (arith, length-drop 24 head, head_long, costs_start_is (arc_count b)))
        ∙ ap (decode 2 (2 * arc_count b)) (sym (drop-append-le 24 head (drop (costs_start m) b) long))
        ∙ ap (λ (t : List ℕ). decode 2 (2 * arc_count b) (drop 24 t)) apart

    new_pass : costs_fault (edition b) 0 new ≡ sound
    unfolding new m
    new_pass = costs_pass all 0 (cost_list b) lists.1

    new_fit : (x : ℕ) → x ∈ new → x < 256 ^ 4
    new_fit x o = small (sound_costs (edition b) 0 new new_pass x o)
      where
        small : Cost (edition b) x → x < 256 ^ 4
        small (at_most le) = omega arith
        small (marked f e) = omega arith

    costs_new : cost_list image ≡ new
    unfolding cost_list costs_in m k
    costs_new =
        ap₂ (λ (x y : ℕ). decode 4 (x * y) (drop (costs_start x) image)) m_same k_same
        ∙ ap (λ (t : List ℕ). decode 4 (arc_count b * column_count b) t) (ap (drop (costs_start (arc_count b))) image_holds ∙ drop_at head (encode 4 new) (costs_start (arc_count b)) head_long ∙ sym (append-nil (encode 4 new)))
        ∙ ap (λ (c : ℕ). decode 4 c (encode 4 new ++ [])) (sym new_long)
        ∙ decode_encode 4 new [] new_fit

    passes : image_fault image ≡ sound
    unfolding image_fault taken_fault lists_fault
    passes =
        then_next _ (rows_pass 2 image (omega (arith, length_same, h.long)) (rw e_same h.taken) (rw (n_same, m_same, k_same) (range_in h.ranges)) (fields_same (arc_count image) (column_count image) ∙ ap₂ (fields_right b) m_same k_same ∙ h.fields) (length_same ∙ h.whole ∙ sym (ap₂ total m_same k_same)))
        ∙ rw (e_same, n_same, m_same, nodes_same, costs_new, then_next _ lists.0) new_pass

    cost_told : (arc u : ℕ) → arc < arc_count b → 1 ≤ u → u ≤ column_count b → get_or (cost_list image) ((u - 1) * arc_count b + arc) 0 ≡ cost_after (winner arc u records) (get_or (cost_list b) ((u - 1) * arc_count b + arc) 0)
    unfolding new m
    cost_told arc u low from to =
        let p = (u - 1) * arc_count b + arc in
        let at : 0 + p ≡ p = omega arith in
        ap (λ (t : List ℕ). get_or t p 0) costs_new
        ∙ after_at (arc_count b) records 0 (cost_list b) p (omega (arith, place_to (arc_count b) (column_count b) arc u low from to, cost_count))
        ∙ ap (λ (x : ℕ). cost_after (winner (x % arc_count b) (x / arc_count b + 1) records) (get_or (cost_list b) p 0)) at
        ∙ ap₂ (λ (x y : ℕ). cost_after (winner x y records) (get_or (cost_list b) p 0)) (arc_back (arc_count b) arc u low from) (column_back (arc_count b) arc u low from)

    pub updates : Updates b records
    unfolding image image_after cost_after
    updates = record {
      again = passes;
      same_length = length_same;
      same_edition = e_same;
      same_nodes = n_same;
      same_arc_count = m_same;
      same_columns = k_same;
      same_arcs = nodes_same;
      costs_told = cost_told;
      untouched = λ arc u low from to alone. cost_told arc u low from to ∙ ap (λ (w : Option Record). cost_after w (get_or (cost_list b) ((u - 1) * arc_count b + arc) 0)) (winner_none arc u records alone);
      winning = λ arc u. winning arc u records;
      agreed = λ others same. ap (λ (t : List ℕ). take (costs_start (arc_count b)) b ++ encode 4 t) (agree_costs (arc_count b) records others same 0 (cost_list b));
    }

-- ---- the call
image_at : (b : List ℕ) (records : List Record) {m : ℕ} → m ≡ arc_count b → take (costs_start m) b ++ encode 4 (costs_after m records 0 (cost_list b)) ≡ image_after b records
unfolding image_after
image_at b records e = ap (λ (x : ℕ). take (costs_start x) b ++ encode 4 (costs_after x records 0 (cost_list b))) e

pub records_decide : (b l : List ℕ) {n m k e : ℕ} → both_fault b l ≡ sound → Sized b n m k e → update_fault b l ≡ records_fault e m k 0 (record_list l)
unfolding update_fault
records_decide b l {k = k} h s =
    then_next _ h ∙ sym (ap₂ (λ (e m : ℕ). records_fault e m k 0 (record_list l)) s.e_is s.m_is ∙ ap (λ (k : ℕ). records_fault (edition b) (arc_count b) k 0 (record_list l)) s.k_is)

pub updates_of : (b l : List ℕ) → update_fault b l ≡ sound → Updates b (record_list l)
unfolding update_fault
updates_of b l e =
    let f = then_sound _ _ e in
    updates b (both_sound b l f.0) (record_list l) (all_fit _ _ _ 0 _ f.1)

module _ (b l : List ℕ) {n m k e : ℕ} (out : List ℕ) (ok : update_fault b l ≡ sound) (s : Sized b n m k e) (all : AllBytes b) where
  pub image_written : ((costs : List ℕ) → length costs ≡ m * k → b ≡ take (costs_start m) b ++ encode 4 costs → out ≡ take (costs_start m) b ++ encode 4 (costs_after m (record_list l) 0 costs)) → out ≡ after (update_fault b l) (image_after b (record_list l)) b
  unfolding update_fault
  image_written f =
      let accepted = both_sound b l (then_sound _ _ ok).0 in
      let new = image_after b (record_list l) in
      whole accepted ∙ sym (after_sound new b ok ∙ ap (λ (t : List ℕ). new ++ t) (drop_of_length-le b {i = length new} (omega (arith, (updates_of b l ok).same_length))) ∙ append-nil new)
    where
      whole : image_fault b ≡ sound → out ≡ image_after b (record_list l)
      whole accepted =
          f (cost_list b) (cost_count b accepted ∙ sym (ap₂ (λ (x y : ℕ). x * y) s.m_is s.k_is)) (image_is b accepted all ∙ ap (λ (x : ℕ). take (costs_start x) b ++ encode 4 (cost_list b)) (sym s.m_is)) ∙ as_image
        where
          as_image : take (costs_start m) b ++ encode 4 (costs_after m (record_list l) 0 (cost_list b)) ≡ image_after b (record_list l)
          as_image = image_at b (record_list l) s.m_is
