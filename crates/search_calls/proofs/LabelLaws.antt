-- The labels of all columns, put one after the other. Assumes nothing.
use Prim.Native.Nat.{ℕ, suc, ◌+◌, ◌*◌, ◌-◌, ◌≤◌, ◌<◌}
use native.Mathlib.Omega.{arith}
use native.Mathlib.Nat.{eq-or-lt_of_le, suc-mul}
use mathlib.Core.Path.{◌≡◌, refl, sym, ◌∙◌, ap, subst}
use mathlib.Core.Bool.{false}
use mathlib.Core.Logic.{⊎_elim}
use mathlib.Core.List.{List, [], ◌++◌}
use lib.Dec.{leb}
use lib.ListN.{length, get_or, take, get_or-append, get_or-eq_default}
use lib.Seq.{length-take-le, get_or-take, get_or-drop, drop_at}
use borrow.Rule.Slice.PartMut.{put_mid, post_of, take_put}
use borrow.Author.Tests.{leb-true, le-leb}
use Rattle.terms.specs.Network.{Net, column, Admitted}
use Rattle.terms.specs.Paths.{paths}
use Rattle.terms.proofs.ListLaws.{split, mem_length, get_or_mem, le_or_lt}
use Rattle.terms.proofs.PathLaws.{column_within, path_listed, listed_path}
use Rattle.labels.specs.Labels.{far, Least}
use Rattle.loading.specs.Loaded.{Loaded}
use Rattle.loading.proofs.LoadLaws.{loaded_least}
use Rattle.outcomes.proofs.LabelLaws.{narrowed_near, narrow_at, narrow_fits, label_narrowed}
use Rattle.descent.specs.Rows.{at_row}
use Rattle.descent.specs.Tables.{LabelIn, no_way, reached}
use Rattle.descent.proofs.RowLaws.{row_in}
use Rattle.search_calls.specs.Labelled.{LabelRows}

-- ---- a part that is put in
pub put_before : (a k : ℕ) (l new : List ℕ) (x : ℕ) → a ≤ length l → x < a → get_or (put_mid a k l new) x 0 ≡ get_or l x 0
put_before a k l new x h lt = sym (get_or-take a (put_mid a k l new) x 0 lt) ∙ ap (λ (z : List ℕ). get_or z x 0) (take_put a k l new h) ∙ get_or-take a l x 0 lt

pub put_inside : (a k : ℕ) (l new : List ℕ) (j : ℕ) → a ≤ length l → j < length new → get_or (put_mid a k l new) (a + j) 0 ≡ get_or new j 0
put_inside a k l new j h lt =
    sym (get_or-drop a (put_mid a k l new) j 0)
    ∙ ap (λ (z : List ℕ). get_or z j 0) (drop_at (take a l) (new ++ post_of a k l) a (length-take-le a l h))
    ∙ get_or-append new (post_of a k l) 0 j lt

-- ---- one column
pub record LabelRow (net : Net) (t u places : ℕ) (row : List ℕ) : Type 0 where
  pub long : length row ≡ places
  pub low : (x : ℕ) → x < places → get_or row x 0 < far → get_or row x 0 ≤ 1000000000000
  pub labels_are : (h : ℕ) → 1 ≤ h → h < places → LabelIn net.nodes (column net u) t h (get_or row h 0)

module _ {e : ℕ} {net : Net} (ok : Admitted e net) {u t : ℕ} {star ws ls : List ℕ} (from : 1 ≤ u) (upto : u ≤ length net.columns) (L : Loaded net u t star ws ls) where
  least : Least (column net u) [] t ls
  least = loaded_least L

  low : (x : ℕ) → x < length ls → get_or ls x 0 < far → get_or ls x 0 ≤ 1000000000000
  low x h k = omega (arith, narrow_fits (narrow_at ok from upto L.labels_long least x h) (λ z. omega arith))

  module _ (h : ℕ) (lo : 1 ≤ h) (hi : h ≤ net.nodes) where
    attained : get_or ls h 0 < far → LabelIn net.nodes (column net u) t h (get_or ls h 0)
    attained k =
        let x = least.attained h (omega (arith, L.labels_long)) k in
        let m = path_listed net.nodes (column_within ok u) lo hi x.1.path in
        reached (low h (omega (arith, L.labels_long)) k) (le-leb 1 (length (paths net.nodes (column net u) h t)) (mem_length m)) (label_narrowed ok from upto L.labels_long least h lo hi ∙ narrowed_near (get_or ls h 0) (λ z. omega arith))

    none : get_or ls h 0 ≡ far → leb 1 (length (paths net.nodes (column net u) h t)) ≡ false
    none z = ⊎_elim (λ b. absurd (some (leb-true 1 _ b))) (λ b. b) (split (leb 1 (length (paths net.nodes (column net u) h t))))
      where
        some : 1 ≤ length (paths net.nodes (column net u) h t) → ⊥
        some k =
            let p = get_or_mem (paths net.nodes (column net u) h t) [] 0 k in
            omega (arith, z, (least.least h _ (record { path = listed_path net.nodes p; free = λ x i. refl })).1)

    pub label_in : LabelIn net.nodes (column net u) t h (get_or ls h 0)
    label_in = ⊎_elim (λ z. no_way z (none z)) attained (eq-or-lt_of_le (least.at_most h))

  pub loaded_row : LabelRow net t u (net.nodes + 1) ls
  loaded_row = record { long = L.labels_long; low = λ x h. low x (omega (arith, L.labels_long)); labels_are = λ h lo hi. label_in h lo (omega arith) }

-- ---- the first u columns
pub record LabelledTo (net : Net) (t u places : ℕ) (labels : List ℕ) : Type 0 where
  pub low : (x : ℕ) → x < u * places → get_or labels x 0 < far → get_or labels x 0 ≤ 1000000000000
  pub labels_are : (w h : ℕ) → w < u → 1 ≤ h → h < places → LabelIn net.nodes (column net (suc w)) t h (at_row places labels w h)

pub none_labelled : {net : Net} {t places : ℕ} {labels : List ℕ} → LabelledTo net t 0 places labels
none_labelled {places = places} = record { low = λ x h. absurd (let z : 0 * places ≡ 0 = omega arith in omega arith); labels_are = λ w h l. absurd (omega arith) }

module _ (c : ℕ) {net : Net} {t places u : ℕ} {labels row : List ℕ} (D : LabelledTo net t u places labels) (R : LabelRow net t (u + 1) places row) (fits : u * places + places ≤ length labels) where
  abbrev new : List ℕ
  new = put_mid (u * places) c labels row

  old_at : (x : ℕ) → x < u * places → get_or new x 0 ≡ get_or labels x 0
  old_at x h = put_before (u * places) c labels row x (omega arith) h

  row_at : (j : ℕ) → j < places → get_or new (u * places + j) 0 ≡ get_or row j 0
  row_at j h = put_inside (u * places) c labels row j (omega arith) (omega (arith, R.long))

  low_here : (x : ℕ) → x < (u + 1) * places → get_or new x 0 < far → get_or new x 0 ≤ 1000000000000
  low_here x h k = ⊎_elim behind before (le_or_lt (u * places) x)
    where
      before : x < u * places → get_or new x 0 ≤ 1000000000000
      before l = omega (arith, old_at x l, D.low x l (omega (arith, old_at x l)))

      behind : u * places ≤ x → get_or new x 0 ≤ 1000000000000
      behind l =
          let j = x - u * places in
          let e : u * places + j ≡ x = omega arith in
          let inside : j < places = omega (arith, suc-mul u places, h) in
          let same : get_or new x 0 ≡ get_or row j 0 = ap (λ (y : ℕ). get_or new y 0) (sym e) ∙ row_at j inside in
          omega (arith, same, R.low j inside (omega (arith, same)))

  are_here : (w h : ℕ) → w < u + 1 → 1 ≤ h → h < places → LabelIn net.nodes (column net (suc w)) t h (at_row places new w h)
  are_here w h l lo hi = let k : w ≤ u = omega arith in ⊎_elim last earlier (eq-or-lt_of_le k)
    where
      last : w ≡ u → LabelIn net.nodes (column net (suc w)) t h (at_row places new w h)
      last e =
          let s : suc w ≡ u + 1 = omega arith in
          let at : get_or new (w * places + h) 0 ≡ get_or row h 0 = ap (λ (y : ℕ). get_or new (y * places + h) 0) e ∙ row_at h hi in
          subst (λ (y : ℕ). LabelIn net.nodes (column net (suc w)) t h y) (sym at) (subst (λ (y : ℕ). LabelIn net.nodes (column net y) t h (get_or row h 0)) (sym s) (R.labels_are h lo hi))

      earlier : w < u → LabelIn net.nodes (column net (suc w)) t h (at_row places new w h)
      earlier k = subst (λ (y : ℕ). LabelIn net.nodes (column net (suc w)) t h y) (sym (old_at (w * places + h) (row_in w u places h k hi))) (D.labels_are w h k lo hi)

  pub one_labelled : LabelledTo net t (u + 1) places new
  one_labelled = record { low = low_here; labels_are = are_here }

pub all_labelled : {net : Net} {t u places : ℕ} {labels : List ℕ} → LabelledTo net t u places labels → length labels ≡ u * places → LabelRows net t u places labels
all_labelled {u = u} {places} {labels} D long = record { long = long; low = λ x k. ⊎_elim (λ l. omega (arith, get_or-eq_default labels 0 l)) (λ l. D.low x (omega arith) k) (le_or_lt (length labels) x); labels_are = D.labels_are }
