-- Columns of one length, one after the other. Assumes nothing.
use Prim.Native.Nat.{ℕ, zero, suc, ◌*◌, ◌<◌}
use native.Mathlib.Omega.{arith}
use native.Mathlib.Nat.{suc-mul}
use mathlib.Core.Path.{◌≡◌, refl, sym, ◌∙◌, ap, ap₂}
use mathlib.Core.Logic.{⊎_elim}
use mathlib.Core.List.Memᴰ
use mathlib.Core.List.{List, [], ◌∷◌, map}
use lib.ListN.{length, get_or, take, drop, length-append}
use lib.Seq.{take_at, drop_at}
use Rattle.terms.specs.Lists.{◌∈◌}
use Rattle.terms.specs.Network.{cut}
use Rattle.terms.proofs.ColumnLaws.{cut_at}
use Rattle.loading.specs.Selected.{in_a_row}

-- an element of a list on which a function is applied
pub get_or_map_in : {A B : Type 0} (f : A → B) (l : List A) (i : ℕ) (d : A) (d' : B) → i < length l → get_or (map f l) i d' ≡ f (get_or l i d)
get_or_map_in f [] i d d' h = absurd (omega arith)
get_or_map_in f (x ∷ l) zero d d' h = refl
get_or_map_in f (x ∷ l) (suc i) d d' h = get_or_map_in f l i d d' (omega arith)

module _ (m : ℕ) where
  pub row_length : (cs : List (List ℕ)) → ((c : List ℕ) → c ∈ cs → length c ≡ m) → length (in_a_row cs) ≡ length cs * m
  unfolding in_a_row
  row_length [] full = omega arith
  row_length (c ∷ cs) full =
      length-append c (in_a_row cs) ∙ omega (arith, full c (Memᴰ.head refl), row_length cs (λ x h. full x (Memᴰ.tail h)), suc-mul (length cs) m)

  pub row_cut : (cs : List (List ℕ)) → ((c : List ℕ) → c ∈ cs → length c ≡ m) → cut (length cs) m (in_a_row cs) ≡ cs
  unfolding cut in_a_row
  row_cut [] full = refl
  row_cut (c ∷ cs) full =
      let long = full c (Memᴰ.head refl) in
      ap₂ (λ x l. x ∷ l) (take_at c (in_a_row cs) m long) (ap (cut (length cs) m) (drop_at c (in_a_row cs) m long) ∙ row_cut cs (λ x h. full x (Memᴰ.tail h)))

  -- column u is the part that starts behind u columns
  pub row_part : (cs : List (List ℕ)) → ((c : List ℕ) → c ∈ cs → length c ≡ m) → (u : ℕ) → u < length cs → take m (drop (u * m) (in_a_row cs)) ≡ get_or cs u []
  row_part cs full u h = sym (cut_at (length cs) m (in_a_row cs) u h) ∙ ap (λ l. get_or l u []) (row_cut cs full)

-- each cost is one of a column
pub row_mem : (cs : List (List ℕ)) {x : ℕ} → x ∈ in_a_row cs → (c : List ℕ) × (c ∈ cs) × (x ∈ c)
unfolding in_a_row
row_mem [] m = elim m [ ]
row_mem (c ∷ cs) m = ⊎_elim (λ k. (c, Memᴰ.head refl, k)) (λ k. let o = row_mem cs k in (o.0, Memᴰ.tail o.1, o.2)) (Memᴰ.append_cases c m)
