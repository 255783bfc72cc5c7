-- Lists of records: their numbers, their rows, and the places of their costs. Assumes nothing.
use Prim.Native.Nat.{ℕ, zero, suc, ◌+◌, ◌*◌, ◌-◌, ◌/◌, ◌%◌, ◌≤◌, ◌<◌}
use native.Mathlib.Omega.{arith}
use native.Mathlib.Numerals.{add-one}
use native.Mathlib.Nat.{mul_comm, mul-le-mul, suc-mul, mod-eq_of_lt, div-eq_of_lt, div-add-mod', mul-add-div_right, mul-add-mod_self_right}
use mathlib.Core.Path.{◌≡◌, refl, sym, ◌∙◌, ap, ap₂}
use mathlib.Core.Bool.{true}
use mathlib.Core.List.{List, [], ◌∷◌, ◌++◌}
use lib.Dec.{leb, eqb}
use lib.ListN.{length, get_or, drop, length-append, length-drop, drop_of_length-le, get_or-append}
use lib.Seq.{drop-cons, drop_at, drop-drop, get_or-drop}
use borrow.Author.Tests.{ltb-true, leb-true, eqb-true, eq-eqb, not-false}
use Rattle.terms.proofs.ListLaws.{and_both}
use Rattle.image.specs.Outcome.{sound, fault, ◌then◌}
use Rattle.image.specs.Rows.{is_cost}
use Rattle.image.proofs.OutcomeLaws.{then_fault, then_next, then_sound, row_sound}
use Rattle.record_calls.specs.Records.{Record, record_of, records_in, record_list, is_about}
use Rattle.record_calls.specs.Calls.{record_fault, records_fault}

-- ---- the numbers of a record
-- what stands in for a record that is not there
abbrev pub blank : Record
blank = record_of 0 0 0 0

length_in : (c : ℕ) (l : List ℕ) → length (records_in c l) ≡ c
unfolding records_in
length_in zero l = refl
length_in (suc c) l = ap suc (length_in c (drop 4 l))

pub length_list : (l : List ℕ) → length (record_list l) ≡ length l / 4
unfolding record_list
length_list l = length_in (length l / 4) l

in_at : (c : ℕ) (l : List ℕ) (i : ℕ) → i < c → get_or (records_in c l) i blank ≡ record_of (get_or l (4 * i) 0) (get_or l (4 * i + 1) 0) (get_or l (4 * i + 2) 0) (get_or l (4 * i + 3) 0)
unfolding records_in
in_at zero l i h = absurd (omega arith)
in_at (suc c) l zero h = refl
in_at (suc c) l (suc i) h =
    let e : 4 * suc i ≡ 4 + 4 * i = omega arith in
    let e₁ : 4 + 4 * i + 1 ≡ 4 + (4 * i + 1) = omega arith in
    let e₂ : 4 + 4 * i + 2 ≡ 4 + (4 * i + 2) = omega arith in
    let e₃ : 4 + 4 * i + 3 ≡ 4 + (4 * i + 3) = omega arith in
    in_at c (drop 4 l) i (omega arith) ∙ rw (get_or-drop 4 l (4 * i) 0, get_or-drop 4 l (4 * i + 1) 0, get_or-drop 4 l (4 * i + 2) 0, get_or-drop 4 l (4 * i + 3) 0, e, e₁, e₂, e₃)

pub list_at : (l : List ℕ) (i : ℕ) → i < length l / 4 → get_or (record_list l) i blank ≡ record_of (get_or l (4 * i) 0) (get_or l (4 * i + 1) 0) (get_or l (4 * i + 2) 0) (get_or l (4 * i + 3) 0)
unfolding record_list
list_at l i h = in_at (length l / 4) l i h

-- ---- rows, one record after another
module _ (e m k : ℕ) (records : List Record) (i : ℕ) where
  records_step : i < length records → records_fault e m k i (drop i records) ≡ (record_fault e m k i (get_or records i blank) then records_fault e m k (i + 1) (drop (i + 1) records))
  unfolding records_fault
  records_step h = rw (add-one, drop-cons records i blank h)

  pub record_found : {number place : ℕ} {r : Record} → i < length records → get_or records i blank ≡ r → record_fault e m k i r ≡ fault number place → records_fault e m k i (drop i records) ≡ fault number place
  record_found h at f = records_step h ∙ then_fault _ (rw at f)

  pub record_passed : {r : Record} → i < length records → get_or records i blank ≡ r → record_fault e m k i r ≡ sound → records_fault e m k i (drop i records) ≡ records_fault e m k (i + 1) (drop (i + 1) records)
  record_passed h at f = records_step h ∙ then_next _ (rw at f)

  pub records_end : length records ≤ i → records_fault e m k i (drop i records) ≡ sound
  unfolding records_fault
  records_end h = rw (drop_of_length-le records h)

-- a record that passes
pub record Fits (e m k : ℕ) (r : Record) : Type 0 where
  pub arc_to : r.arc < m
  pub column_from : 1 ≤ r.column
  pub column_to : r.column ≤ k
  pub cost_is : is_cost e r.cost ≡ true

pub fits : (e m k i : ℕ) (r : Record) → record_fault e m k i r ≡ sound → Fits e m k r
unfolding record_fault
fits e m k i r h =
    let h₁ = then_sound _ _ h in
    let h₂ = then_sound _ _ h₁.1 in
    let f = and_both (leb 1 r.column) (leb r.column k) (not-false _ (row_sound _ _ _ h₂.0)) in
    record { arc_to = ltb-true _ _ (not-false _ (row_sound _ _ _ h₁.0)); column_from = leb-true _ _ f.0; column_to = leb-true _ _ f.1; cost_is = not-false _ (row_sound _ _ _ h₂.1) }

pub data AllFit (e m k : ℕ) : List Record → Type 0 where
  no_more : AllFit e m k []
  one_more : {r : Record} {l : List Record} → Fits e m k r → AllFit e m k l → AllFit e m k (r ∷ l)

pub all_fit : (e m k i : ℕ) (records : List Record) → records_fault e m k i records ≡ sound → AllFit e m k records
unfolding records_fault
all_fit e m k i [] h = no_more
all_fit e m k i (r ∷ l) h = let h₁ = then_sound _ _ h in one_more (fits e m k i r h₁.0) (all_fit e m k (suc i) l h₁.1)

pub fit_at : {e m k : ℕ} {records : List Record} → AllFit e m k records → (i : ℕ) → i < length records → Fits e m k (get_or records i blank)
fit_at no_more i h = absurd (omega arith)
fit_at (one_more f all) zero h = f
fit_at (one_more f all) (suc i) h = fit_at all i (omega arith)

-- ---- chunk after chunk
-- chunk x is taken off the front of what is left from record i on: it is record i, and the chunks from i + 1 on are left
module _ (l rest x rest' : List ℕ) (i : ℕ) (left : rest ≡ drop (4 * i) l) (taken : rest ≡ x ++ rest') (four : length x ≡ 4) where
  chunk_length : length (drop (4 * i) l) ≡ 4 + length rest'
  chunk_length = ap length (sym left ∙ taken) ∙ length-append x rest' ∙ ap (λ (n : ℕ). n + length rest') four

  pub chunk_low : i < length l / 4
  chunk_low = omega (arith, chunk_length, length-drop (4 * i) l)

  pub chunk_left : rest' ≡ drop (4 * (i + 1)) l
  chunk_left =
      let step : 4 * i + 4 ≡ 4 * (i + 1) = omega arith in
      sym (drop_at x rest' 4 four) ∙ ap (drop 4) (sym taken ∙ left) ∙ drop-drop 4 (4 * i) l ∙ ap (λ (n : ℕ). drop n l) step

  pub chunk_at : (j : ℕ) → j < 4 → get_or l (4 * i + j) 0 ≡ get_or x j 0
  chunk_at j h = sym (get_or-drop (4 * i) l j 0) ∙ ap (λ (t : List ℕ). get_or t j 0) (sym left ∙ taken) ∙ get_or-append x rest' 0 j (omega (arith, four))

  pub chunk_is : get_or (record_list l) i blank ≡ record_of (get_or x 0 0) (get_or x 1 0) (get_or x 2 0) (get_or x 3 0)
  chunk_is =
      let first : 4 * i ≡ 4 * i + 0 = omega arith in
      list_at l i chunk_low
      ∙ ap₂ (λ (a c : ℕ). record_of a c (get_or l (4 * i + 2) 0) (get_or l (4 * i + 3) 0)) (ap (λ (n : ℕ). get_or l n 0) first ∙ chunk_at 0 (omega arith)) (chunk_at 1 (omega arith))
      ∙ ap₂ (λ (c s : ℕ). record_of (get_or x 0 0) (get_or x 1 0) c s) (chunk_at 2 (omega arith)) (chunk_at 3 (omega arith))

  pub chunk_fits : {e m k : ℕ} → records_fault e m k 0 (record_list l) ≡ sound → Fits e m k (record_of (get_or x 0 0) (get_or x 1 0) (get_or x 2 0) (get_or x 3 0))
  chunk_fits {e} {m} {k} h = rw chunk_is at (fit_at (all_fit e m k 0 (record_list l) h) i (omega (arith, chunk_low, length_list l)))

-- ---- the place of a cost
abbrev pub place_of : ℕ → Record → ℕ
place_of m r = (r.column - 1) * m + r.arc

pub place_to : (m k arc column : ℕ) → arc < m → 1 ≤ column → column ≤ k → (column - 1) * m + arc < m * k
place_to m k arc (suc u) h from to =
    let e : suc u * m ≡ u * m + m = suc-mul u m in
    let le : suc u * m ≤ k * m = mul-le-mul to (omega arith) in
    let one : suc u - 1 ≡ u = omega arith in
    let same : (suc u - 1) * m ≡ u * m = ap (λ (x : ℕ). x * m) one in
    omega (arith, mul_comm m k)
place_to m k arc zero h from to = absurd (omega arith)

pub place_fits : {e m k : ℕ} {r : Record} → Fits e m k r → place_of m r < m * k
place_fits {m = m} {k} {r} f = place_to m k r.arc r.column f.arc_to f.column_from f.column_to

-- the arc and the column of that place
module _ (m arc column : ℕ) (h : arc < m) (from : 1 ≤ column) where
  pub arc_back : ((column - 1) * m + arc) % m ≡ arc
  arc_back = mul-add-mod_self_right (column - 1) m arc ∙ mod-eq_of_lt h

  pub column_back : ((column - 1) * m + arc) / m + 1 ≡ column
  column_back =
      let e : ((column - 1) * m + arc) / m ≡ (column - 1) + arc / m = mul-add-div_right (omega arith) (column - 1) arc in
      let f : arc / m ≡ 0 = div-eq_of_lt h in
      omega arith

-- a record that fits is about the arc and the column of its own place, and of no other
pub about_here : {e m k : ℕ} (r : Record) → Fits e m k r → is_about (place_of m r % m) (place_of m r / m + 1) r ≡ true
unfolding is_about
about_here {m = m} r f =
    rw (arc_back m r.arc r.column f.arc_to f.column_from, column_back m r.arc r.column f.arc_to f.column_from, eq-eqb r.arc r.arc refl, eq-eqb r.column r.column refl)

pub about_place : {e m k : ℕ} (r : Record) → Fits e m k r → (i : ℕ) → is_about (i % m) (i / m + 1) r ≡ true → i ≡ place_of m r
unfolding is_about
about_place {m = m} r f i h =
    let t = and_both (eqb r.arc (i % m)) (eqb r.column (i / m + 1)) h in
    let a : r.arc ≡ i % m = eqb-true _ _ t.0 in
    let u : r.column ≡ i / m + 1 = eqb-true _ _ t.1 in
    let e : r.column - 1 ≡ i / m = omega arith in
    sym (div-add-mod' i m) ∙ sym (ap₂ (λ (x y : ℕ). x * m + y) e a)
