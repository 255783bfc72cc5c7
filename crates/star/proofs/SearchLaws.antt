-- The search for an arc by halving: its steps, that it is right, and how often it looks. Assumes nothing.
use Prim.Native.Nat.{ℕ, zero, suc, ◌+◌, ◌-◌, ◌/◌, ◌^◌, ◌≤◌, ◌<◌}
use native.Mathlib.Omega.{arith}
use native.Mathlib.Nat.{two-pow-succ, pow-zero, eq-or-lt_of_le}
use mathlib.Core.Path.{◌≡◌, refl, sym, ◌∙◌, ap, subst}
use mathlib.Core.Bool.{Bool, true, false, ◌||◌}
use mathlib.Core.Logic.{⊎_elim}
use mathlib.Core.List.{List}
use Rattle.std.specs.Prelude.{Option, Some, None}
use lib.Dec.{ltb, eqb}
use lib.ListN.{get_or}
use borrow.Author.Tests.{ltb-true, eqb-true, eqb-false, lt-ltb, le-ltb, eq-eqb, ne_eqb}
use Rattle.terms.specs.Network.{below}
use Rattle.terms.proofs.ListLaws.{clash, or_cases, and_both, le_or_lt, by_cond}
use Rattle.star.specs.Search.{Sought, record_at, is_arc, middle, halve, seek, Among, Rising, Finds}

-- ---- the order of the arcs
or_none : (b : Bool) → (b || false) ≡ b
or_none true = refl
or_none false = refl

-- what it is that one arc is below another
pub data Below (a b : ℕ × ℕ) : Type 0 where
  lower_tail : a.0 < b.0 → Below a b
  lower_head : a.0 ≡ b.0 → a.1 < b.1 → Below a b

pub below_is : {a b : ℕ × ℕ} → below a b ≡ true → Below a b
unfolding below
below_is {a} {b} e = ⊎_elim (λ h. lower_tail (ltb-true _ _ h)) (λ h. let k = and_both (eqb a.0 b.0) (ltb a.1 b.1) h in lower_head (eqb-true _ _ k.0) (ltb-true _ _ k.1)) (or_cases e)

-- None is below one that is below it
below_once : {a b : ℕ × ℕ} → Below a b → Below b a → ⊥
below_once (lower_tail h) (lower_tail k) = omega arith
below_once (lower_tail h) (lower_head e k) = omega arith
below_once (lower_head e h) (lower_tail k) = omega arith
below_once (lower_head e h) (lower_head e' k) = omega arith

-- tails decide, then heads
module _ (t h t' h' : ℕ) where
  pub below_apart : (t ≡ t' → ⊥) → below (t, h) (t', h') ≡ ltb t t'
  unfolding below
  below_apart n = rw (ne_eqb t t' n) (or_none (ltb t t'))

  pub below_level : t ≡ t' → below (t, h) (t', h') ≡ ltb h h'
  unfolding below
  below_level e = rw (eq-eqb t t' e, le-ltb t t' (omega arith))

  pub below_of : t ≤ t' → (t ≡ t' → h < h') → below (t, h) (t', h') ≡ true
  below_of l e = ⊎_elim (λ q. below_level q ∙ lt-ltb h h' (e q)) (λ k. below_apart (λ q. omega arith) ∙ lt-ltb t t' k) (eq-or-lt_of_le l)

  pub arc_level : t ≡ t' → is_arc (t, h) (t', h') ≡ eqb h h'
  unfolding is_arc
  arc_level e = rw (eq-eqb t t' e)

  arc_true : is_arc (t, h) (t', h') ≡ true → (t ≡ t') × (h ≡ h')
  unfolding is_arc
  arc_true e = let b = and_both (eqb t t') (eqb h h') e in (eqb-true t t' b.0, eqb-true h h' b.1)

-- ---- small things
some_left : (l : ℕ) → eqb l 0 ≡ false → 0 < l
some_left zero t = absurd (eqb-false zero 0 t refl)
some_left (suc l) t = omega arith

-- an index, or None
none_else : (o : Option ℕ) → ((i : ℕ) → o ≡ Some i → ⊥) → o ≡ None
none_else None h = refl
none_else (Some i) h = absurd (h i refl)

module _ (ts hs : List ℕ) (x : ℕ × ℕ) where
  -- ---- its steps
  halve_none : (most looks f : ℕ) → halve ts hs x most looks f 0 ≡ (None, looks)
  unfolding halve
  halve_none zero looks f = refl
  halve_none (suc most) looks f = refl

  halve_here : (most looks f l : ℕ) → 0 < l → is_arc (record_at ts hs (middle f l)) x ≡ true → halve ts hs x (suc most) looks f l ≡ (Some (middle f l), looks + 1)
  unfolding halve
  halve_here most looks f l h t = rw (ne_eqb l 0 (λ e. omega arith), t)

  halve_behind : (most looks f l : ℕ) → 0 < l → is_arc (record_at ts hs (middle f l)) x ≡ false → below (record_at ts hs (middle f l)) x ≡ true → halve ts hs x (suc most) looks f l ≡ halve ts hs x most (looks + 1) (middle f l + 1) (l / 2)
  unfolding halve
  halve_behind most looks f l h t u = rw (ne_eqb l 0 (λ e. omega arith), t, u)

  halve_before : (most looks f l : ℕ) → 0 < l → is_arc (record_at ts hs (middle f l)) x ≡ false → below (record_at ts hs (middle f l)) x ≡ false → halve ts hs x (suc most) looks f l ≡ halve ts hs x most (looks + 1) f ((l - 1) / 2)
  unfolding halve
  halve_before most looks f l h t u = rw (ne_eqb l 0 (λ e. omega arith), t, u)

  -- ---- an index that it gives is the arc's
  wider : {a e a' e' i : ℕ} → a ≤ a' → e' ≤ e → Among ts hs x a' e' i → Among ts hs x a e i
  wider h k m = record { from = omega (arith, m.from); upto = omega (arith, m.upto); tail_is = m.tail_is; head_is = m.head_is }

  halve_right : (most looks f l i : ℕ) → (halve ts hs x most looks f l).0 ≡ Some i → Among ts hs x f (f + l) i
  unfolding halve
  halve_right zero looks f l i p = let z : ◌≡◌ {A = ℕ} 0 1 = cc in absurd (omega arith)
  halve_right (suc most) looks f l i p =
      by_cond (λ (s : Sought). s.0 ≡ Some i → Among ts hs x f (f + l) i) (eqb l 0) (λ _ p. let z : ◌≡◌ {A = ℕ} 0 1 = cc in absurd (omega arith))
      (λ t. let h : 0 < l = some_left l t in
      by_cond (λ (s : Sought). s.0 ≡ Some i → Among ts hs x f (f + l) i) (is_arc (record_at ts hs (middle f l)) x)
      (λ u p. let q : middle f l ≡ i = cc in
      let r = arc_true _ _ _ _ u in
      let n : Among ts hs x f (f + l) (middle f l) = record { from = omega arith; upto = omega arith; tail_is = r.0; head_is = r.1 } in
      subst (Among ts hs x f (f + l)) q n)
      (λ _. by_cond (λ (s : Sought). s.0 ≡ Some i → Among ts hs x f (f + l) i) (below (record_at ts hs (middle f l)) x) (λ _ p. wider (omega arith) (omega arith) (halve_right most (looks + 1) (middle f l + 1) (l / 2) i p)) (λ _ p. wider (omega arith) (omega arith) (halve_right most (looks + 1) f ((l - 1) / 2) i p))))
      p

  -- ---- in records that rise it finds the arc
  module _ {a e : ℕ} (rising : Rising ts hs a e) where
    -- the arc, which stands at i, is below a record behind it, and a record before it is below the arc
    lower : {i j : ℕ} → Among ts hs x a e i → i < j → j < e → below x (record_at ts hs j) ≡ true
    lower {i} {j} m h k = rw (m.tail_is, m.head_is) at (rising.rises i j m.from h k)

    higher : {i j : ℕ} → Among ts hs x a e i → j < i → a ≤ j → below (record_at ts hs j) x ≡ true
    higher {i} {j} m h k = rw (m.tail_is, m.head_is) at (rising.rises j i k h m.upto)

    -- the arc has one record
    not_twice : {i j : ℕ} → Among ts hs x a e i → Among ts hs x a e j → i < j → ⊥
    not_twice m n h = let b = rw (n.tail_is, n.head_is) at (lower m h n.upto) in below_once (below_is b) (below_is b)

    once : {i j : ℕ} → Among ts hs x a e i → Among ts hs x a e j → i ≡ j
    once {i} {j} m n = ⊎_elim (λ k. ⊎_elim (λ q. q) (λ k'. absurd (not_twice m n k')) (eq-or-lt_of_le k)) (λ k. absurd (not_twice n m k)) (le_or_lt i j)

    halve_found : (most looks f l i : ℕ) → a ≤ f → f + l ≤ e → l ≤ most → f ≤ i → i < f + l → Among ts hs x a e i → (halve ts hs x most looks f l).0 ≡ Some i
    unfolding halve
    halve_found zero looks f l i lo up enough from to m = absurd (omega arith)
    halve_found (suc most) looks f l i lo up enough from to m =
        by_cond (λ (s : Sought). s.0 ≡ Some i) (eqb l 0) (λ t. let z = eqb-true l 0 t in absurd (omega arith))
        (λ t. let h : 0 < l = some_left l t in
        by_cond (λ (s : Sought). s.0 ≡ Some i) (is_arc (record_at ts hs (middle f l)) x)
        (λ v. let r = arc_true _ _ _ _ v in ap Some (once (record { from = omega arith; upto = omega arith; tail_is = r.0; head_is = r.1 }) m))
        (λ v. by_cond (λ (s : Sought). s.0 ≡ Some i) (below (record_at ts hs (middle f l)) x)
        (λ w. halve_found most (looks + 1) (middle f l + 1) (l / 2) i (omega arith) (omega arith) (omega arith) (⊎_elim (λ k. absurd (⊎_elim (λ q. other v q) (λ k'. below_once (below_is (lower m k' (omega arith))) (below_is w)) (eq-or-lt_of_le k))) (λ k. omega arith) (le_or_lt i (middle f l))) (omega arith) m)
        (λ w. halve_found most (looks + 1) f ((l - 1) / 2) i lo (omega arith) (omega arith) from (⊎_elim (λ k. absurd (⊎_elim (λ q. other v (sym q)) (λ k'. clash (higher m k' (omega arith)) w) (eq-or-lt_of_le k))) (λ k. k) (le_or_lt (middle f l) i)) m)))
      where
        other : is_arc (record_at ts hs (middle f l)) x ≡ false → i ≡ middle f l → ⊥
        other v q = clash (arc_level (get_or ts i 0) (get_or hs i 0) x.0 x.1 m.tail_is ∙ eq-eqb (get_or hs i 0) x.1 m.head_is) (rw (← q) at v)

  -- ---- how often it looks: fewer than 2^k records are looked through by k looks
  halve_few : (k most looks f l : ℕ) → l < 2 ^ k → (halve ts hs x most looks f l).1 ≤ looks + k
  unfolding halve
  halve_few k zero looks f l h = omega arith
  halve_few zero (suc most) looks f l h = by_cond (λ (s : Sought). s.1 ≤ looks + 0) (eqb l 0) (λ _. omega arith) (λ t. let z : 0 < l = some_left l t in absurd (omega (arith, pow-zero 2)))
  halve_few (suc k) (suc most) looks f l h =
      let p = two-pow-succ k in
      by_cond (λ (s : Sought). s.1 ≤ looks + suc k) (eqb l 0) (λ _. omega arith)
      (λ _. by_cond (λ (s : Sought). s.1 ≤ looks + suc k) (is_arc (record_at ts hs (middle f l)) x) (λ _. omega arith)
      (λ _. by_cond (λ (s : Sought). s.1 ≤ looks + suc k) (below (record_at ts hs (middle f l)) x)
      (λ _. omega (arith, halve_few k most (looks + 1) (middle f l + 1) (l / 2) (omega arith)))
      (λ _. omega (arith, halve_few k most (looks + 1) f ((l - 1) / 2) (omega arith)))))

  -- ---- what the search comes to
  pub seek_finds : (a e : ℕ) → Finds ts hs x a e (seek ts hs x a e)
  unfolding seek
  seek_finds a e = record {
    index_right = right;
    index_found = found;
    none_right = λ r p i m. let q = found r i m in let z : ◌≡◌ {A = ℕ} 0 1 = cc in omega arith;
    none_found = λ no. none_else (halve ts hs x (e - a) 0 a (e - a)).0 (λ i p. no i (right i p));
    few = λ h. halve_few 10 (e - a) 0 a (e - a) (omega arith);
  }
    where
      right : (i : ℕ) → (halve ts hs x (e - a) 0 a (e - a)).0 ≡ Some i → Among ts hs x a e i
      right i p = let m = halve_right (e - a) 0 a (e - a) i p in wider (omega arith) (omega (arith, m.from, m.upto)) m

      found : Rising ts hs a e → (i : ℕ) → Among ts hs x a e i → (halve ts hs x (e - a) 0 a (e - a)).0 ≡ Some i
      found r i m = let k = m.from in let k' = m.upto in halve_found r (e - a) 0 a (e - a) i (omega arith) (omega arith) (omega arith) k (omega arith) m

-- ---- the search on its way: `looks` were looked at, and `left` records from `first` on are left
pub record Seeking (ts hs : List ℕ) (x : ℕ × ℕ) (from to first left looks : ℕ) : Type 0 where
  pub most : ℕ
  pub within : first + left ≤ to + (from - to)
  pub enough : left ≤ most
  pub spent : looks + most ≡ to - from
  pub goes_on : halve ts hs x most looks first left ≡ seek ts hs x from to

module _ {ts hs : List ℕ} {x : ℕ × ℕ} {from to : ℕ} where
  pub seeking : Seeking ts hs x from to from (to - from) 0
  unfolding seek
  seeking = record { most = to - from; within = omega arith; enough = omega arith; spent = omega arith; goes_on = refl }

  -- what is left goes on to the same
  spend : {f l looks : ℕ} → Seeking ts hs x from to f l looks → 0 < l → (most : ℕ) × ((l ≤ suc most) × (looks + suc most ≡ to - from) × (halve ts hs x (suc most) looks f l ≡ seek ts hs x from to))
  spend {f} {l} {looks} s h = by_most s.most s.enough s.spent s.goes_on
    where
      by_most : (most : ℕ) → l ≤ most → looks + most ≡ to - from → halve ts hs x most looks f l ≡ seek ts hs x from to → (most : ℕ) × ((l ≤ suc most) × (looks + suc most ≡ to - from) × (halve ts hs x (suc most) looks f l ≡ seek ts hs x from to))
      by_most zero k p q = absurd (omega arith)
      by_most (suc most) k p q = (most, (k, p, q))

  -- the tests of the record in the middle, as they came out
  pub seek_here : {f l looks : ℕ} {is : Bool} → Seeking ts hs x from to f l looks → 0 < l → is ≡ is_arc (record_at ts hs (middle f l)) x → is ≡ true → (Some (middle f l), looks + 1) ≡ seek ts hs x from to
  seek_here {f} {l} {looks} s h t t' = let p = spend s h in sym (halve_here ts hs x p.0 looks f l h (sym t ∙ t')) ∙ p.1.2

  pub seek_behind : {f l looks : ℕ} {is low : Bool} → Seeking ts hs x from to f l looks → 0 < l → is ≡ is_arc (record_at ts hs (middle f l)) x → is ≡ false → low ≡ below (record_at ts hs (middle f l)) x → low ≡ true → Seeking ts hs x from to (middle f l + 1) (l / 2) (looks + 1)
  seek_behind {f} {l} {looks} s h t t' u u' = let p = spend s h in
      record { most = p.0; within = omega (arith, s.within); enough = omega (arith, p.1.0); spent = omega (arith, p.1.1); goes_on = sym (halve_behind ts hs x p.0 looks f l h (sym t ∙ t') (sym u ∙ u')) ∙ p.1.2 }

  pub seek_before : {f l looks : ℕ} {is low : Bool} → Seeking ts hs x from to f l looks → 0 < l → is ≡ is_arc (record_at ts hs (middle f l)) x → is ≡ false → low ≡ below (record_at ts hs (middle f l)) x → low ≡ false → Seeking ts hs x from to f ((l - 1) / 2) (looks + 1)
  seek_before {f} {l} {looks} s h t t' u u' = let p = spend s h in
      record { most = p.0; within = omega (arith, s.within); enough = omega (arith, p.1.0); spent = omega (arith, p.1.1); goes_on = sym (halve_before ts hs x p.0 looks f l h (sym t ∙ t') (sym u ∙ u')) ∙ p.1.2 }

  pub seek_end : {f l looks : ℕ} → Seeking ts hs x from to f l looks → l ≤ 0 → (None, looks) ≡ seek ts hs x from to
  seek_end {f} {l} {looks} s h = let z : l ≡ 0 = omega arith in sym (halve_none ts hs x s.most looks f) ∙ (rw z at s.goes_on)
