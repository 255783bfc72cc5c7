-- One record after another, over the stamps and the costs that stand so far; at the end the winners' costs stand. Assumes nothing.
use Prim.Native.Nat.{ℕ, zero, suc, ◌+◌, ◌*◌, ◌/◌, ◌%◌, ◌<◌}
use native.Mathlib.Omega.{arith}
use native.Mathlib.Numerals.{add-one}
use mathlib.Core.Path.{◌≡◌, refl, sym, ◌∙◌, ap, ap₂}
use mathlib.Core.Bool.{Bool, true, false, cond}
use mathlib.Core.List.{List, [], ◌∷◌, ◌++◌, append_assoc}
use mathlib.Core.Option.{Option, none, some}
use mathlib.Core.Logic.{⊎_elim}
use lib.Dec.{leb}
use lib.ListN.{length, get_or, take, drop, set, length-set}
use lib.Seq.{take-append-add, drop-append-add, get_or-set_same, get_or-set_other, ext_get_or}
use borrow.Author.Tests.{leb-true, leb-false, le-leb, lt-leb}
use Rattle.terms.proofs.ListLaws.{split, clash}
use Rattle.image.specs.Bytes.{bytes, encode}
use Rattle.record_calls.specs.Records.{Record, is_about, counting, winner, cost_after, costs_after}
use Rattle.record_calls.proofs.RecordLaws.{blank, Fits, AllFit, no_more, one_more, place_of, about_here, about_place}

-- ---- a step
-- does a record replace what stands at its place
abbrev pub replaces : ℕ → List ℕ → Record → Bool
replaces m stamps r = leb (get_or stamps (place_of m r) 0) r.stamp

unfoldable pub stamps_step : ℕ → List ℕ → Record → List ℕ
stamps_step m stamps r = cond (replaces m stamps r) (set stamps (place_of m r) r.stamp) stamps

unfoldable pub costs_step : ℕ → List ℕ → List ℕ → Record → List ℕ
costs_step m stamps costs r = cond (replaces m stamps r) (set costs (place_of m r) r.cost) costs

unfoldable pub stamps_run : ℕ → List ℕ → List Record → List ℕ
stamps_run m stamps [] = stamps
stamps_run m stamps (r ∷ l) = stamps_run m (stamps_step m stamps r) l

unfoldable pub costs_run : ℕ → List ℕ → List ℕ → List Record → List ℕ
costs_run m stamps costs [] = costs
costs_run m stamps costs (r ∷ l) = costs_run m (stamps_step m stamps r) (costs_step m stamps costs r) l

pub stamps_more : (m : ℕ) (stamps : List ℕ) (l : List Record) (i : ℕ) → i < length l → stamps_run m stamps (take (i + 1) l) ≡ stamps_step m (stamps_run m stamps (take i l)) (get_or l i blank)
unfolding stamps_run
stamps_more m stamps l i h = rw add-one (go stamps l i h)
  where
    go : (stamps : List ℕ) (l : List Record) (i : ℕ) → i < length l → stamps_run m stamps (take (suc i) l) ≡ stamps_step m (stamps_run m stamps (take i l)) (get_or l i blank)
    go stamps [] i h = absurd (omega arith)
    go stamps (r ∷ l) zero h = refl
    go stamps (r ∷ l) (suc i) h = go (stamps_step m stamps r) l i (omega arith)

pub costs_more : (m : ℕ) (stamps costs : List ℕ) (l : List Record) (i : ℕ) → i < length l → costs_run m stamps costs (take (i + 1) l) ≡ costs_step m (stamps_run m stamps (take i l)) (costs_run m stamps costs (take i l)) (get_or l i blank)
unfolding stamps_run costs_run
costs_more m stamps costs l i h = rw add-one (go stamps costs l i h)
  where
    go : (stamps costs : List ℕ) (l : List Record) (i : ℕ) → i < length l → costs_run m stamps costs (take (suc i) l) ≡ costs_step m (stamps_run m stamps (take i l)) (costs_run m stamps costs (take i l)) (get_or l i blank)
    go stamps costs [] i h = absurd (omega arith)
    go stamps costs (r ∷ l) zero h = refl
    go stamps costs (r ∷ l) (suc i) h = go (stamps_step m stamps r) (costs_step m stamps costs r) l i (omega arith)

-- ---- lengths
length_cond : (b : Bool) (k l : List ℕ) → length k ≡ length l → length (cond b k l) ≡ length l
length_cond true k l e = e
length_cond false k l e = refl

length_stamps_step : (m : ℕ) (stamps : List ℕ) (r : Record) → length (stamps_step m stamps r) ≡ length stamps
unfolding stamps_step
length_stamps_step m stamps r = length_cond (replaces m stamps r) _ _ (length-set stamps (place_of m r) r.stamp)

length_costs_step : (m : ℕ) (stamps costs : List ℕ) (r : Record) → length (costs_step m stamps costs r) ≡ length costs
unfolding costs_step
length_costs_step m stamps costs r = length_cond (replaces m stamps r) _ _ (length-set costs (place_of m r) r.cost)

pub length_costs_run : (m : ℕ) (stamps costs : List ℕ) (l : List Record) → length (costs_run m stamps costs l) ≡ length costs
unfolding costs_run
length_costs_run m stamps costs [] = refl
length_costs_run m stamps costs (r ∷ l) = length_costs_run m (stamps_step m stamps r) (costs_step m stamps costs r) l ∙ length_costs_step m stamps costs r

-- ---- what a run leaves at a place
-- of a stamp and a cost that stand there, and the winner of the records to come
unfoldable left : ℕ → ℕ → Option Record → ℕ
left stamp cost none = cost
left stamp cost (some r) = cond (leb stamp r.stamp) r.cost cost

left_some : (s c : ℕ) (r : Record) {b : Bool} → leb s r.stamp ≡ b → left s c (some r) ≡ cond b r.cost c
unfolding left
left_some s c r e = ap (λ (t : Bool). cond t r.cost c) e

module _ (r w : Record) where
  later_counts : leb r.stamp w.stamp ≡ true → counting r (some w) ≡ w
  unfolding counting
  later_counts t = ap (λ (b : Bool). cond b w r) t

  first_counts : leb r.stamp w.stamp ≡ false → counting r (some w) ≡ r
  unfolding counting
  first_counts f = ap (λ (b : Bool). cond b w r) f

  counts : (s c : ℕ) {x : Record} → counting r (some w) ≡ x → left s c (some (counting r (some w))) ≡ left s c (some x)
  counts s c e = ap (λ (x : Record). left s c (some x)) e

-- a record that replaces what stands there
left_replaced : (s c : ℕ) (r : Record) (w : Option Record) → leb s r.stamp ≡ true → left r.stamp r.cost w ≡ left s c (some (counting r w))
unfolding left counting
left_replaced s c r none h = sym (left_some s c r h)
left_replaced s c r (some w) h =
    ⊎_elim (λ t. left_some r.stamp r.cost w t ∙ sym (counts r w s c (later_counts r w t) ∙ left_some s c w (le-leb s w.stamp (omega (arith, leb-true s r.stamp h, leb-true r.stamp w.stamp t))))) (λ f. left_some r.stamp r.cost w f ∙ sym (counts r w s c (first_counts r w f) ∙ left_some s c r h)) (split (leb r.stamp w.stamp))

-- one that does not
left_kept : (s c : ℕ) (r : Record) (w : Option Record) → leb s r.stamp ≡ false → left s c w ≡ left s c (some (counting r w))
unfolding left counting
left_kept s c r none h = sym (left_some s c r h)
left_kept s c r (some w) h =
    ⊎_elim (λ t. sym (counts r w s c (later_counts r w t))) (λ f. left_some s c w (lt-leb s w.stamp (omega (arith, leb-false s r.stamp h, leb-false r.stamp w.stamp f))) ∙ sym (counts r w s c (first_counts r w f) ∙ left_some s c r h)) (split (leb r.stamp w.stamp))

-- the stamp and the cost at a place after one record
at_cond : (b : Bool) (k l : List ℕ) (i : ℕ) → get_or (cond b k l) i 0 ≡ cond b (get_or k i 0) (get_or l i 0)
at_cond true k l i = refl
at_cond false k l i = refl

same_cond : (b : Bool) {x y : ℕ} → x ≡ y → cond b x y ≡ y
same_cond true e = e
same_cond false e = refl

module _ (b : Bool) (l : List ℕ) (p x : ℕ) where
  at_here : p < length l → get_or (cond b (set l p x) l) p 0 ≡ cond b x (get_or l p 0)
  at_here h = at_cond b (set l p x) l p ∙ ap (λ (y : ℕ). cond b y (get_or l p 0)) (get_or-set_same l p x 0 h)

  at_other : (i : ℕ) → (i ≡ p → ⊥) → get_or (cond b (set l p x) l) i 0 ≡ get_or l i 0
  at_other i apart = at_cond b (set l p x) l i ∙ same_cond b (get_or-set_other l p i x 0 apart)

left_cond : (b : Bool) (s c : ℕ) (r : Record) (w : Option Record) → leb s r.stamp ≡ b → left (cond b r.stamp s) (cond b r.cost c) w ≡ left s c (some (counting r w))
left_cond true s c r w h = left_replaced s c r w h
left_cond false s c r w h = left_kept s c r w h

module _ {e m k : ℕ} (stamps costs : List ℕ) (r : Record) (f : Fits e m k r) (low : place_of m r < length stamps) (long : length costs ≡ length stamps) (w : Option Record) where
  left_here : left (get_or (stamps_step m stamps r) (place_of m r) 0) (get_or (costs_step m stamps costs r) (place_of m r) 0) w ≡ left (get_or stamps (place_of m r) 0) (get_or costs (place_of m r) 0) (some (counting r w))
  unfolding stamps_step costs_step
  left_here =
      let p = place_of m r in
      let b = replaces m stamps r in
      ap₂ (λ (s c : ℕ). left s c w) (at_here b stamps p r.stamp low) (at_here b costs p r.cost (omega arith)) ∙ left_cond b (get_or stamps p 0) (get_or costs p 0) r w refl

  left_about : (i : ℕ) → is_about (i % m) (i / m + 1) r ≡ true → left (get_or (stamps_step m stamps r) i 0) (get_or (costs_step m stamps costs r) i 0) w ≡ left (get_or stamps i 0) (get_or costs i 0) (some (counting r w))
  left_about i t = let e : i ≡ place_of m r = about_place r f i t in rw e left_here

  left_beside : (i : ℕ) → is_about (i % m) (i / m + 1) r ≡ false → left (get_or (stamps_step m stamps r) i 0) (get_or (costs_step m stamps costs r) i 0) w ≡ left (get_or stamps i 0) (get_or costs i 0) w
  unfolding stamps_step costs_step
  left_beside i t =
      let p = place_of m r in
      let b = replaces m stamps r in
      let apart : i ≡ place_of m r → ⊥ = λ e. clash (about_here r f) (rw e at t) in
      ap₂ (λ (s c : ℕ). left s c w) (at_other b stamps p r.stamp i apart) (at_other b costs p r.cost i apart)

winner_about : (arc column : ℕ) (r : Record) (l : List Record) → is_about arc column r ≡ true → winner arc column (r ∷ l) ≡ some (counting r (winner arc column l))
unfolding winner
winner_about arc column r l t = ap (λ (b : Bool). cond b (some (counting r (winner arc column l))) (winner arc column l)) t

winner_beside : (arc column : ℕ) (r : Record) (l : List Record) → is_about arc column r ≡ false → winner arc column (r ∷ l) ≡ winner arc column l
unfolding winner
winner_beside arc column r l t = ap (λ (b : Bool). cond b (some (counting r (winner arc column l))) (winner arc column l)) t

-- a run leaves at each place what the winner of its records and what stands there leave
run_leaves : {e m k : ℕ} (stamps costs : List ℕ) {l : List Record} → AllFit e m k l → ((r : Record) → Fits e m k r → place_of m r < length stamps) → length costs ≡ length stamps → (i : ℕ)
    → get_or (costs_run m stamps costs l) i 0 ≡ left (get_or stamps i 0) (get_or costs i 0) (winner (i % m) (i / m + 1) l)
unfolding costs_run winner left
run_leaves stamps costs no_more low long i = refl
run_leaves {e} {m} {k} stamps costs (one_more {r} {l} f all) low long i =
    let w = winner (i % m) (i / m + 1) l in
    let s = get_or stamps i 0 in
    let c = get_or costs i 0 in
    run_leaves (stamps_step m stamps r) (costs_step m stamps costs r) all (λ q g. rw (length_stamps_step m stamps r) (low q g)) (length_costs_step m stamps costs r ∙ long ∙ sym (length_stamps_step m stamps r)) i
    ∙ ⊎_elim (λ t. left_about stamps costs r f (low r f) long w i t ∙ ap (left s c) (sym (winner_about (i % m) (i / m + 1) r l t))) (λ t. left_beside stamps costs r f (low r f) long w i t ∙ ap (left s c) (sym (winner_beside (i % m) (i / m + 1) r l t))) (split (is_about (i % m) (i / m + 1) r))

-- ---- the costs after a list
pub length_costs_after : (m : ℕ) (l : List Record) (i : ℕ) (costs : List ℕ) → length (costs_after m l i costs) ≡ length costs
unfolding costs_after
length_costs_after m l i [] = refl
length_costs_after m l i (c ∷ costs) = ap suc (length_costs_after m l (suc i) costs)

pub after_at : (m : ℕ) (l : List Record) (i : ℕ) (costs : List ℕ) (j : ℕ) → j < length costs → get_or (costs_after m l i costs) j 0 ≡ cost_after (winner ((i + j) % m) ((i + j) / m + 1) l) (get_or costs j 0)
unfolding costs_after
after_at m l i [] j h = absurd (omega arith)
after_at m l i (c ∷ costs) zero h =
    let e : i ≡ i + 0 = omega arith in
    ap (λ (x : ℕ). cost_after (winner (x % m) (x / m + 1) l) c) e
after_at m l i (c ∷ costs) (suc j) h =
    let e : suc i + j ≡ i + suc j = omega arith in
    after_at m l (suc i) costs j (omega arith) ∙ ap (λ (x : ℕ). cost_after (winner (x % m) (x / m + 1) l) (get_or costs j 0)) e

-- where no stamp stands, the winner's cost is left
left_none : (c : ℕ) (w : Option Record) → left 0 c w ≡ cost_after w c
unfolding left cost_after
left_none c none = refl
left_none c (some r) = left_some 0 c r (le-leb 0 r.stamp (omega arith))

pub run_is : {e m k : ℕ} (stamps costs : List ℕ) {l : List Record} → AllFit e m k l → ((r : Record) → Fits e m k r → place_of m r < length stamps) → length costs ≡ length stamps → ((x : ℕ) → get_or stamps x 0 ≡ 0)
    → costs_run m stamps costs l ≡ costs_after m l 0 costs
run_is {e} {m} {k} stamps costs {l} all low long clear =
    ext_get_or 0 (costs_run m stamps costs l) (costs_after m l 0 costs) (length_costs_run m stamps costs l ∙ sym (length_costs_after m l 0 costs)) same
  where
    same : (i : ℕ) → i < length (costs_run m stamps costs l) → get_or (costs_run m stamps costs l) i 0 ≡ get_or (costs_after m l 0 costs) i 0
    same i h =
        let w = winner (i % m) (i / m + 1) l in
        let c = get_or costs i 0 in
        let left_is : left (get_or stamps i 0) c w ≡ cost_after w c = ap (λ (s : ℕ). left s c w) (clear i) ∙ left_none c w in
        let at : 0 + i ≡ i = omega arith in
        run_leaves stamps costs all low long i ∙ left_is ∙ sym (after_at m l 0 costs i (omega (arith, length_costs_run m stamps costs l)) ∙ ap (λ (x : ℕ). cost_after (winner (x % m) (x / m + 1) l) c) at)

-- ---- a cost written among others
encode_set : (l : List ℕ) (p x : ℕ) → p < length l → take (4 * p) (encode 4 l) ++ (bytes 4 x ++ drop (4 * p + 4) (encode 4 l)) ≡ encode 4 (set l p x)
unfolding encode bytes
encode_set [] p x h = absurd (omega arith)
encode_set (c ∷ l) zero x h = refl
encode_set (c ∷ l) (suc p) x h =
    let e : 4 * suc p ≡ suc (suc (suc (suc (4 * p)))) = omega arith in
    let f : suc (suc (suc (suc (4 * p)))) + 4 ≡ suc (suc (suc (suc (4 * p + 4)))) = omega arith in
    rw (e, f) (ap (λ (t : List ℕ). bytes 4 c ++ t) (encode_set l p x (omega arith)))

pub write_cost : (head : List ℕ) (start : ℕ) (l : List ℕ) (p x : ℕ) → length head ≡ start → p < length l → take (start + 4 * p) (head ++ encode 4 l) ++ (bytes 4 x ++ drop (start + 4 * p + 4) (head ++ encode 4 l)) ≡ head ++ encode 4 (set l p x)
write_cost head start l p x long h =
    let e : start ≡ length head = sym long in
    let f : length head + 4 * p + 4 ≡ length head + (4 * p + 4) = omega arith in
    rw (e, f, take-append-add head (encode 4 l) (4 * p), drop-append-add head (encode 4 l) (4 * p + 4), append_assoc) (ap (λ (t : List ℕ). head ++ t) (encode_set l p x h))

-- ---- one record more
module _ (m : ℕ) (l : List Record) (i : ℕ) {r : Record} (h : i < length l) (at : get_or l i blank ≡ r) where
  pub stamps_next : (stamps₀ stamps : List ℕ) → stamps ≡ stamps_run m stamps₀ (take i l) → stamps_step m stamps r ≡ stamps_run m stamps₀ (take (i + 1) l)
  stamps_next stamps₀ stamps e = ap₂ (stamps_step m) e (sym at) ∙ sym (stamps_more m stamps₀ l i h)

  costs_next : (stamps₀ stamps costs : List ℕ) → stamps ≡ stamps_run m stamps₀ (take i l) → costs_step m stamps (costs_run m stamps₀ costs (take i l)) r ≡ costs_run m stamps₀ costs (take (i + 1) l)
  costs_next stamps₀ stamps costs e =
      ap₂ (λ (s : List ℕ) (q : Record). costs_step m s (costs_run m stamps₀ costs (take i l)) q) e (sym at) ∙ sym (costs_more m stamps₀ costs l i h)

  -- the image whose costs these are, after the code's own step
  pub image_next : (head : List ℕ) (start : ℕ) (image stamps₀ stamps costs : List ℕ) → length head ≡ start → place_of m r < length costs → stamps ≡ stamps_run m stamps₀ (take i l) → image ≡ head ++ encode 4 (costs_run m stamps₀ costs (take i l))
      → cond (replaces m stamps r) (take (start + 4 * place_of m r) image ++ (bytes 4 r.cost ++ drop (start + 4 * place_of m r + 4) image)) image ≡ head ++ encode 4 (costs_run m stamps₀ costs (take (i + 1) l))
  unfolding costs_step
  image_next head start image stamps₀ stamps costs long low e f =
      written (replaces m stamps r) (costs_run m stamps₀ costs (take i l)) (omega (arith, length_costs_run m stamps₀ costs (take i l))) f ∙ ap (λ (t : List ℕ). head ++ encode 4 t) (costs_next stamps₀ stamps costs e)
    where
      written : (b : Bool) (c : List ℕ) → place_of m r < length c → image ≡ head ++ encode 4 c → cond b (take (start + 4 * place_of m r) image ++ (bytes 4 r.cost ++ drop (start + 4 * place_of m r + 4) image)) image ≡ head ++ encode 4 (cond b (set c (place_of m r) r.cost) c)
      written true c low g =
          let e : image ≡ head ++ encode 4 c = g in
          rw e (write_cost head start c (place_of m r) r.cost long low)
      written false c low g = g
