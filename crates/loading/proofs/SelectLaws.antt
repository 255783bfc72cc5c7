-- Some of the arcs by their indices: their network is the restricted one, and how the indices are chosen. Assumes nothing.
use Prim.Native.Nat.{ℕ, zero, suc, ◌+◌, ◌-◌, ◌≤◌, ◌<◌}
use native.Mathlib.Omega.{arith}
use native.Mathlib.Numerals.{add-one}
use native.Mathlib.Nat.{eq-or-lt_of_le}
use mathlib.Core.Path.{◌≡◌, refl, sym, ◌∙◌, ap, subst, fun_ext}
use mathlib.Core.Bool.{Bool, true, false, not, ◌&&◌}
use mathlib.Core.Logic.{◌≢◌, ⊎_elim}
use mathlib.Core.List.Memᴰ
use mathlib.Core.List.{List, [], ◌∷◌, ◌++◌, map, append-nil}
use lib.ListN.{length, get_or, take, set, length-map}
use lib.Seq.{take-suc, take-suc-set}
use borrow.Rule.Slice.PartMut.{put_mid, post_of}
use borrow.Author.Tests.{eqb-false, ne_eqb, not-true}
use Rattle.terms.specs.Lists.{◌∈◌, keep, pick, numbers}
use Rattle.terms.specs.Network.{Net, mark, cost_column, restrict, open_in, open_everywhere, common, Admitted}
use Rattle.terms.proofs.ListLaws.{split, clash, and_both, keep_mem, keep_all, keep_append, keep_keep, keep_length, keep_full, pick_all, map_same, get_or_mem, length_numbers, numbers_mem, pick_places}
use Rattle.terms.proofs.NetworkLaws.{costs_mem, costs_long, restrict_all}
use Rattle.terms.proofs.CommonLaws.{not_marked, open_by, everywhere_unmarked, unmarked}
use Rattle.closures.specs.Map.{left}
use Rattle.closures.proofs.MapLaws.{short_open}
use Rattle.loading.proofs.RowLaws.{get_or_map_in}
use Rattle.loading.specs.Selected.{passing, Indices, at_places, selected}

-- ---- indices
module _ {m : ℕ} {ks : List ℕ} (I : Indices m ks) where
  pub index_below : (i : ℕ) → i < length ks → get_or ks i 0 < m
  index_below i h =
      let here = subst (λ l. get_or ks i 0 ∈ l) I.are (get_or_mem ks 0 i h) in
      omega (arith, numbers_mem 0 m (keep_mem I.test (numbers 0 m) here).0)

  pub indices_few : length ks ≤ m
  indices_few = omega (arith, ap length I.are, keep_length I.test (numbers 0 m), length_numbers 0 m)

  -- as many as there are arcs are all of them
  pub indices_all : length ks ≡ m → ks ≡ numbers 0 m
  indices_all e = I.are ∙ keep_full I.test (numbers 0 m) (ap length (sym I.are) ∙ e ∙ sym (length_numbers 0 m))

pub all_indices : (m : ℕ) → Indices m (numbers 0 m)
all_indices m = record { test = λ _. true; are = sym (keep_all (λ _. true) (numbers 0 m) (λ x h. refl)) }

-- what stands at all places is the whole list
pub at_all_places : (l : List ℕ) {m : ℕ} → length l ≡ m → at_places (numbers 0 m) l ≡ l
at_all_places l {m} e =
    ap (λ k. at_places (numbers 0 k) l) (sym e)
    ∙ ap (λ ks. at_places ks l) (sym (keep_all (λ _. true) (numbers 0 (length l)) (λ x h. refl)))
    ∙ sym (pick_places (λ _. true) 0 l)
    ∙ pick_all (λ _. true) 0 l (λ j. refl)

-- the network of the indices that pass a test is the restricted one
pub selected_restrict : {e : ℕ} {net : Net} → Admitted e net → (f : ℕ → Bool) {m : ℕ} {ks : List ℕ} → m ≡ length net.arcs → ks ≡ passing f m → selected ks net ≡ restrict f net
unfolding selected restrict
selected_restrict {net = net} ok f {m} {ks} count are = λ i. record { nodes = net.nodes; arcs = arcs_same i; columns = columns_same i }
  where
    own : ks ≡ passing f (length net.arcs)
    own = are ∙ ap (passing f) count

    arcs_same : map (λ i. get_or net.arcs i (0, 0)) ks ≡ pick f 0 net.arcs
    arcs_same = ap (map (λ i. get_or net.arcs i (0, 0))) own ∙ sym (pick_places f (0, 0) net.arcs)

    columns_same : map (at_places ks) net.columns ≡ map (pick f 0) net.columns
    columns_same = map_same net.columns (λ c h. ap (λ k. at_places k c) (own ∙ ap (passing f) (sym (ok.full c h))) ∙ sym (pick_places f 0 c))

-- ---- indices that are moved to the front, one after the other
module _ (f : ℕ → Bool) (old now : List ℕ) (i front : ℕ) (here : i < length old) (so_far : take front now ≡ keep f (take i old)) where
  keep_next : keep f (take (i + 1) old) ≡ keep f (take i old) ++ keep f (get_or old i 0 ∷ [])
  keep_next = rw (add-one, take-suc old i 0 here) (keep_append f (take i old) (get_or old i 0 ∷ []))

  pub index_kept : front < length now → f (get_or old i 0) ≡ true → take (front + 1) (set now front (get_or old i 0)) ≡ keep f (take (i + 1) old)
  unfolding keep
  index_kept room t = rw (add-one, take-suc-set now front (get_or old i 0) room, so_far) (sym (keep_next ∙ rw t refl))

  pub index_dropped : f (get_or old i 0) ≡ false → take front now ≡ keep f (take (i + 1) old)
  unfolding keep
  index_dropped n = so_far ∙ sym (keep_next ∙ rw n (append-nil (keep f (take i old))))

-- what stands at the front of a part that was lent from the beginning on
take_front : (r : ℕ) (part rest : List ℕ) → r ≤ length part → take r (part ++ rest) ≡ take r part
take_front zero part rest h = refl
take_front (suc r) [] rest h = absurd (omega arith)
take_front (suc r) (x ∷ part) rest h = ap (λ (l : List ℕ). x ∷ l) (take_front r part rest (omega arith))

pub take_lent : (k r : ℕ) (old part : List ℕ) → r ≤ length part → take r (put_mid 0 k old part) ≡ take r part
take_lent k r old part h = take_front r part (post_of 0 k old) h

-- ---- which arcs are open
-- in the columns 1 to u
unfoldable pub open_upto : Net → ℕ → ℕ → Bool
open_upto net zero i = true
open_upto net (suc u) i = open_upto net u i && open_in net (suc u) i

-- in none of no columns is an arc closed
pub none_closed : (net : Net) (l : List ℕ) → l ≡ keep (open_upto net 0) l
unfolding open_upto
none_closed net l = sym (keep_all (λ _. true) l (λ x h. refl))

pub one_column_more : (net : Net) (u : ℕ) (l : List ℕ) → keep (open_in net (u + 1)) (keep (open_upto net u) l) ≡ keep (open_upto net (u + 1)) l
unfolding open_upto
one_column_more net u l = rw (add-one u) (keep_keep (open_upto net u) (open_in net (suc u)) l)

upto_each : (net : Net) (u i : ℕ) → open_upto net u i ≡ true → (v : ℕ) → 1 ≤ v → v ≤ u → open_in net v i ≡ true
unfolding open_upto
upto_each net zero i t v lo hi = absurd (omega arith)
upto_each net (suc u) i t v lo hi =
    let k = and_both (open_upto net u i) (open_in net (suc u) i) t in
    ⊎_elim (λ e. rw e k.1) (λ l. upto_each net u i k.0 v lo (omega arith)) (eq-or-lt_of_le hi)

each_upto : (net : Net) (u i : ℕ) → ((v : ℕ) → 1 ≤ v → v ≤ u → open_in net v i ≡ true) → open_upto net u i ≡ true
unfolding open_upto
each_upto net zero i h = refl
each_upto net (suc u) i h = rw (each_upto net u i (λ v lo hi. h v lo (omega arith)), h (suc u) (omega arith) (omega arith))

module _ {e : ℕ} {net : Net} (ok : Admitted e net) where
  -- in all columns
  all_columns : (i : ℕ) → open_upto net (length net.columns) i ≡ open_everywhere net i
  unfolding open_in
  all_columns i = ⊎_elim opened closed (split (open_upto net (length net.columns) i))
    where
      opened : open_upto net (length net.columns) i ≡ true → open_upto net (length net.columns) i ≡ open_everywhere net i
      opened t = t ∙ sym (open_by ok i (λ u lo hi. eqb-false _ mark (not-true _ (upto_each net (length net.columns) i t u lo hi))))

      closed : open_upto net (length net.columns) i ≡ false → open_upto net (length net.columns) i ≡ open_everywhere net i
      closed n = ⊎_elim (λ t. clash (each_upto net (length net.columns) i (λ u lo hi. rw (ne_eqb _ mark (not_marked ok u i t lo hi)))) n) (λ t. n ∙ sym t) (split (open_everywhere net i))

  pub open_in_all : {k : ℕ} (l : List ℕ) → k ≡ length net.columns → keep (open_upto net k) l ≡ keep (open_everywhere net) l
  open_in_all l count = ap (λ u. keep (open_upto net u) l) count ∙ ap (λ f. keep f l) (fun_ext all_columns)

-- in edition 1 all are
module _ {net : Net} (ok : Admitted 1 net) where
  pub first_edition_open : (u : ℕ) → 1 ≤ u → u ≤ length net.columns → (f : ℕ → Bool) {m : ℕ} → m ≡ length net.arcs → passing f m ≡ keep (open_in net u) (passing f m)
  unfolding open_in
  first_edition_open u lo hi f {m} count = sym (keep_all (open_in net u) (passing f m) (λ i h. rw (ne_eqb _ mark (costs_in i (numbers_mem 0 m (keep_mem f (numbers 0 m) h).0).1))))
    where
      costs_in : (i : ℕ) → i < 0 + m → get_or (cost_column net u) i 0 ≢ mark
      costs_in i h = unmarked ok (cost_column net u) (costs_mem ok u lo hi) _ (get_or_mem (cost_column net u) 0 i (omega (arith, costs_long ok u lo hi)))

  pub first_edition_common : (l : List ℕ) → l ≡ keep (open_everywhere net) l
  first_edition_common l = sym (keep_all (open_everywhere net) l (λ i h. everywhere_unmarked net (unmarked ok) i))

-- ---- those that the map leaves, and of these those that pass another test
pub indices_of : (f g : ℕ → Bool) (m : ℕ) {ks : List ℕ} → ks ≡ keep g (passing f m) → Indices m ks
indices_of f g m e = record { test = λ i. f i && g i; are = e ∙ keep_keep f g (numbers 0 m) }

-- an empty map leaves all
pub left_all : (words : List ℕ) → length words ≡ 0 → (m : ℕ) → numbers 0 m ≡ passing (left words) m
unfolding left
left_all words e m = sym (keep_all (left words) (numbers 0 m) (λ i h. ap not (short_open words i (omega arith))))

-- ---- numbers in their places
numbers_at : (i m j : ℕ) → j < m → i + j ≡ get_or (numbers i m) j 0
unfolding numbers
numbers_at i zero j h = absurd (omega arith)
numbers_at i (suc m) zero h = omega arith
numbers_at i (suc m) (suc j) h = omega (arith, numbers_at (suc i) m j (omega arith))

pub number_at : (m i : ℕ) → i < m → i ≡ get_or (numbers 0 m) i 0
number_at m i h = omega (arith, numbers_at 0 m i h)

-- ---- the arcs at indices
pub selected_length : (ks : List ℕ) (net : Net) → length (selected ks net).arcs ≡ length ks
unfolding selected
selected_length ks net = length-map ks (λ i. get_or net.arcs i (0, 0))

-- and the columns for them
pub selected_count : (ks : List ℕ) (net : Net) → length (selected ks net).columns ≡ length net.columns
unfolding selected
selected_count ks net = length-map net.columns (at_places ks)

pub selected_full : (ks : List ℕ) (net : Net) (c : List ℕ) → c ∈ (selected ks net).columns → length c ≡ length ks
unfolding selected
selected_full ks net c m = let o = Memᴰ.of_map (at_places ks) net.columns m in ap length (sym o.2) ∙ length-map ks (λ i. get_or o.0 i 0)

pub selected_column : (ks : List ℕ) (net : Net) (u : ℕ) → u < length net.columns → get_or (selected ks net).columns u [] ≡ at_places ks (get_or net.columns u [])
unfolding selected
selected_column ks net u h = get_or_map_in (at_places ks) net.columns u [] [] h

pub selected_nodes : (ks : List ℕ) (net : Net) → (selected ks net).nodes ≡ net.nodes
unfolding selected
selected_nodes ks net = refl

pub selected_costs : (ks : List ℕ) (net : Net) (u : ℕ) → 1 ≤ u → u ≤ length net.columns → cost_column (selected ks net) u ≡ at_places ks (cost_column net u)
unfolding cost_column
selected_costs ks net u lo hi = selected_column ks net (u - 1) (omega arith)

-- all arcs are the whole network
pub selected_all : {e : ℕ} {net : Net} → Admitted e net → {m : ℕ} → m ≡ length net.arcs → selected (numbers 0 m) net ≡ net
selected_all {net = net} ok {m} count = selected_restrict ok (λ _. true) {ks = numbers 0 m} count (sym (keep_all (λ _. true) (numbers 0 m) (λ x h. refl))) ∙ restrict_all (λ _. true) net (λ _. refl)

-- where as many arcs are open in every column as there are, all are
pub common_all : {e : ℕ} {net : Net} → Admitted e net → length (common net).arcs ≡ length net.arcs → common net ≡ net
unfolding common
common_all {net = net} ok same =
    let ks = passing (open_everywhere net) (length net.arcs) in
    let is = selected_restrict ok (open_everywhere net) {ks = ks} refl refl in
    let I : Indices (length net.arcs) ks = record { test = open_everywhere net; are = refl } in
    let long : length ks ≡ length net.arcs = sym (selected_length ks net) ∙ ap (λ x. length x.arcs) is ∙ same in
    sym is ∙ ap (λ k. selected k net) (indices_all I long) ∙ selected_all ok refl
