-- Labels may be raised in any way, if each that was raised is then seen to fit: so they are consistent again. Assumes nothing.
use Prim.Native.Nat.{ℕ, zero, suc, ◌+◌, ◌≤◌, ◌<◌}
use native.Mathlib.Omega.{arith}
use native.Mathlib.Nat.{le_refl}
use native.Mathlib.Decide.{ℕ_discrete}
use mathlib.Core.Path.{◌≡◌, refl, sym, ◌∙◌, ap}
use mathlib.Core.Bool.{Bool, true, false}
use mathlib.Core.Logic.{◌⊎◌, inl, inr, ⊎_elim}
use mathlib.Core.List.{List, [], ◌∷◌}
use Rattle.std.specs.List.{push}
use Rattle.std.proofs.lemmas.List.{length_push, get_or_append_left, get_or_push}
use lib.ListN.{length, get_or, set, take, replicate, length-replicate, get_or-eq_default}
use lib.Seq.{get_or-set_same, get_or-set_other, get_or-take, length-take-le}
use Rattle.terms.specs.Lists.{elem}
use Rattle.terms.specs.Network.{Graph, linked, weight}
use Rattle.terms.proofs.ListLaws.{le_or_lt}
use Rattle.terms.proofs.RoomLaws.{part_long, part_zero}
use Rattle.labels.specs.Labels.{far}
use Rattle.exits.specs.Exits.{Unmarked}
use Rattle.sharpening.specs.Sharp.{IsFront, Among, Raises, Lifted, Fits, Mends}
use Rattle.exits.specs.Walks.{Consistent, Exit, Choice}

-- ---- what a search goes by
-- nothing was met: the first k of N marks, and of N zeros
mark_or_none : (N k x : ℕ) → get_or {A = ℕ} (take k (replicate N far)) x 0 < far → get_or {A = ℕ} (take k (replicate N far)) x 0 ≡ 0
mark_or_none N zero x h = refl
mark_or_none zero (suc k) x h = refl
mark_or_none (suc N) (suc k) zero h = absurd (omega arith)
mark_or_none (suc N) (suc k) (suc x) h = mark_or_none N k x h

pub marks_long : (N k : ℕ) → k ≤ N → length {A = ℕ} (take k (replicate N far)) ≡ k
marks_long N k h = length-take-le k (replicate N far) (omega (arith, length-replicate {A = ℕ} N far))

pub front_none : (N k : ℕ) → 0 < k → k ≤ N → k ≤ 201 → IsFront (length {A = ℕ} (take k (replicate N far))) (take k (replicate N far)) (take k (replicate N 0)) 0 0
front_none N k some h few = rw (marks_long N k h) (record {
  few = few;
  keyed = record { long = marks_long N k h; low = λ v b. omega (arith, mark_or_none N k v b) };
  nodes_long = part_long N k h;
  listed = record { below = λ j. omega (arith, part_zero N k j); part = omega arith; upto = omega arith };
})

module _ {k : ℕ} {keys nodes : List ℕ} {taken met : ℕ} (f : IsFront k keys nodes taken met) where
  -- the nodes that were taken
  pub taken_long : length (take taken nodes) ≡ taken
  taken_long = length-take-le taken nodes (omega (arith, f.listed.part, f.listed.upto))

  pub taken_below : (j : ℕ) → get_or (take taken nodes) j 0 < k
  taken_below j =
      ⊎_elim (λ h. omega (arith, get_or-eq_default (take taken nodes) 0 {n = j} (omega (arith, taken_long)), f.listed.below j)) (λ h. omega (arith, get_or-take taken nodes j 0 h, f.listed.below j)) (le_or_lt taken j)

-- ---- one label raised
pub raises_none : (x : ℕ) (ls : List ℕ) → Raises x ls ls
raises_none x ls = record { others = λ z n. refl; no_less = le_refl _ }

pub raises_set : (x a : ℕ) (ls : List ℕ) → x < length ls → get_or ls x 0 ≤ a → Raises x ls (set ls x a)
raises_set x a ls h k = record { others = λ z n. get_or-set_other ls x z a 0 n; no_less = rw (get_or-set_same ls x a 0 h) k }

module _ {x : ℕ} {ls ls' : List ℕ} (r : Raises x ls ls') where
  raises_each : (z : ℕ) → get_or ls z 0 ≤ get_or ls' z 0
  raises_each z = by_case (ℕ_discrete z x)
    where
      by_case : Dec (z ≡ x) → get_or ls z 0 ≤ get_or ls' z 0
      by_case (yes e) = rw e r.no_less
      by_case (no n) = omega (arith, r.others z n)

-- ---- labels lifted
pub lifted_none : (t : ℕ) (nodes ls : List ℕ) → Lifted t nodes 0 ls ls
lifted_none t nodes ls = record { goal_kept = refl; no_less = λ x. le_refl _; each = λ x. inl refl }

among_more : {nodes : List ℕ} {i j x : ℕ} → i ≤ j → Among nodes i x → Among nodes j x
among_more h a = record { place = a.place; before = omega (arith, a.before); is = a.is }

pub lifted_pass : {t i : ℕ} {nodes os ls : List ℕ} → Lifted t nodes i os ls → Lifted t nodes (i + 1) os ls
lifted_pass l = record { goal_kept = l.goal_kept; no_less = l.no_less; each = λ x. ⊎_elim inl (λ a. inr (among_more (omega arith) a)) (l.each x) }

pub lifted_more : {t i x : ℕ} {nodes os ls ls' : List ℕ} → get_or nodes i 0 ≡ x → (x ≡ t → ⊥) → Raises x ls ls' → Lifted t nodes i os ls → Lifted t nodes (i + 1) os ls'
lifted_more {t} {i} {x} {nodes} {os} {ls} {ls'} e n r l = record {
  goal_kept = r.others t (λ h. n (sym h)) ∙ l.goal_kept;
  no_less = λ z. omega (arith, l.no_less z, raises_each r z);
  each = λ z. by_case z (ℕ_discrete z x);
}
  where
    by_case : (z : ℕ) → Dec (z ≡ x) → (get_or ls' z 0 ≡ get_or os z 0) ⊎ Among nodes (i + 1) z
    by_case z (yes h) = inr (record { place = i; before = omega arith; is = e ∙ sym h })
    by_case z (no m) = ⊎_elim (λ h. inl (r.others z m ∙ h)) (λ a. inr (among_more (omega arith) a)) (l.each z)

-- ---- of the nodes that are left, which are a beginning of all, the last is taken
pub record Begins (left nodes : List ℕ) : Type 0 where
  pub same : (j : ℕ) → j < length left → get_or nodes j 0 ≡ get_or left j 0

pub begins_all : (nodes : List ℕ) → Begins nodes nodes
begins_all nodes = record { same = λ j h. refl }

module _ (left rest nodes : List ℕ) (x : ℕ) (split : left ≡ push rest x) where
  pub one_less : length left ≡ length rest + 1
  one_less = rw split (length_push rest x)

  pub begins_rest : Begins left nodes → Begins rest nodes
  begins_rest b = record { same = λ j h. b.same j (omega (arith, one_less)) ∙ (rw split (get_or_append_left rest (x ∷ []) 0 j h)) }

  pub last_is : Begins left nodes → get_or nodes (length rest) 0 ≡ x
  last_is b = b.same (length rest) (omega (arith, one_less)) ∙ (rw split (get_or_push rest x 0 (length rest) refl))

-- ---- labels mended: those of the first `count` nodes are still to be
pub data Mended (g : Graph) (used : List Bool) (nodes : List ℕ) (count : ℕ) (os ls : List ℕ) (x : ℕ) : Type 0 where
  same : get_or ls x 0 ≡ get_or os x 0 → Mended g used nodes count os ls x
  due : Among nodes count x → Mended g used nodes count os ls x
  fit : Fits g used ls x → Mended g used nodes count os ls x

pub record Mending (g : Graph) (t : ℕ) (used : List Bool) (nodes : List ℕ) (count : ℕ) (os ls : List ℕ) : Type 0 where
  pub goal_kept : get_or ls t 0 ≡ get_or os t 0
  pub no_less : (x : ℕ) → get_or os x 0 ≤ get_or ls x 0
  pub each : (x : ℕ) → Mended g used nodes count os ls x

among_less : {nodes : List ℕ} {i x z : ℕ} → get_or nodes i 0 ≡ x → (z ≡ x → ⊥) → Among nodes (i + 1) z → Among nodes i z
among_less {nodes} {i} {x} {z} e n a = by_case (ℕ_discrete a.place i)
  where
    by_case : Dec (a.place ≡ i) → Among nodes i z
    by_case (yes h) = absurd (n (sym a.is ∙ ap (λ (j : ℕ). get_or nodes j 0) h ∙ e))
    by_case (no m) = record { place = a.place; before = omega (arith, a.before); is = a.is }

-- a label that fits does so when another is raised
fits_raised : {g : Graph} {x z : ℕ} {used : List Bool} {ls ls' : List ℕ} → (z ≡ x → ⊥) → Raises x ls ls' → Fits g used ls z → Fits g used ls' z
fits_raised {x = x} {z} n r f = record {
  along = λ y a u h.
      let k = f.along y a u (omega (arith, raises_each r y)) in
      (omega (arith, k.0, r.others z n), omega (arith, k.1, r.others z n, raises_each r y));
}

module _ {g : Graph} {t : ℕ} {used : List Bool} {nodes os : List ℕ} where
  pub mending_start : {count : ℕ} {ls : List ℕ} → Lifted t nodes count os ls → Mending g t used nodes count os ls
  mending_start l = record { goal_kept = l.goal_kept; no_less = l.no_less; each = λ x. ⊎_elim same due (l.each x) }

  pub mending_next : {i x : ℕ} {ls ls' : List ℕ} → get_or nodes i 0 ≡ x → (x ≡ t → ⊥) → Mends g used x ls ls' → Mending g t used nodes (i + 1) os ls → Mending g t used nodes i os ls'
  mending_next {i} {x} {ls} {ls'} e n m s = record {
    goal_kept = m.raises.others t (λ h. n (sym h)) ∙ s.goal_kept;
    no_less = λ z. omega (arith, s.no_less z, raises_each m.raises z);
    each = λ z. by_case z (ℕ_discrete z x) (s.each z);
  }
    where
      by_case : (z : ℕ) → Dec (z ≡ x) → Mended g used nodes (i + 1) os ls z → Mended g used nodes i os ls' z
      by_case z (yes h) a = fit (rw h m.fits)
      by_case z (no k) (same h) = same (m.raises.others z k ∙ h)
      by_case z (no k) (due a) = due (among_less e k a)
      by_case z (no k) (fit f) = fit (fits_raised k m.raises f)

  -- the goal's label is 0
  pub mending_goal : {i x : ℕ} {ls : List ℕ} → get_or nodes i 0 ≡ x → x ≡ t → get_or os t 0 ≡ 0 → Mending g t used nodes (i + 1) os ls → Mending g t used nodes i os ls
  mending_goal {i} {x} {ls} e n z s = record { goal_kept = s.goal_kept; no_less = s.no_less; each = λ y. by_case y (ℕ_discrete y x) (s.each y) }
    where
      by_case : (y : ℕ) → Dec (y ≡ x) → Mended g used nodes (i + 1) os ls y → Mended g used nodes i os ls y
      by_case y (yes h) a = same (ap (λ (j : ℕ). get_or ls j 0) (h ∙ n) ∙ s.goal_kept ∙ ap (λ (j : ℕ). get_or os j 0) (sym (h ∙ n)))
      by_case y (no k) (same h) = same h
      by_case y (no k) (due a) = due (among_less e k a)
      by_case y (no k) (fit f) = fit f

  pub mending_at : {i j : ℕ} {ls : List ℕ} → i ≡ j → Mending g t used nodes i os ls → Mending g t used nodes j os ls
  mending_at e s = rw e at s

  -- with none left to mend they are consistent, if os are
  pub mending_end : {ls bar : List ℕ} → ((z : ℕ) → elem z bar ≡ false → get_or used z false ≡ false) → Consistent g t os bar → Mending g t used nodes 0 os ls → Consistent g t ls bar
  mending_end {ls} {bar} free c s = record { goal_zero = s.goal_kept ∙ c.goal_zero; along = λ x y a u v h. by_case x y a u v h (s.each x) }
    where
      by_case : (x y : ℕ) → linked g x y ≡ true → elem x bar ≡ false → elem y bar ≡ false → get_or ls y 0 < far → Mended g used nodes 0 os ls x → (get_or ls x 0 < far) × (get_or ls x 0 ≤ weight g x y + get_or ls y 0)
      by_case x y a u v h (same e) = let k = c.along x y a u v (omega (arith, s.no_less y)) in (omega (arith, k.0), omega (arith, k.1, s.no_less y))
      by_case x y a u v h (due m) = absurd (omega (arith, m.before))
      by_case x y a u v h (fit f) = f.along y a (free y v) h

-- ---- a label raised to the least weight and label over the exits, or less, fits
module _ {g : Graph} {used : List Bool} {ls : List ℕ} {x : ℕ} where
  pub mends_least : {l y : ℕ} (a : ℕ) → x < length ls → Choice g ls (Unmarked used used) x l y → get_or ls x 0 ≤ a → a ≤ l → a < far → Mends g used x ls (set ls x a)
  mends_least {l} a h c lo hi b = record { raises = raises_set x a ls h lo; fits = record { along = λ y e u k. by_case y e u k (ℕ_discrete y x) } }
    where
      by_case : (y : ℕ) → linked g x y ≡ true → get_or used y false ≡ false → get_or (set ls x a) y 0 < far → Dec (y ≡ x) → (get_or (set ls x a) x 0 < far) × (get_or (set ls x a) x 0 ≤ weight g x y + get_or (set ls x a) y 0)
      by_case y e u k (yes q) = (omega (arith, get_or-set_same ls x a 0 h), omega (arith, ap (λ (j : ℕ). get_or (set ls x a) j 0) q))
      by_case y e u k (no q) =
          let o = get_or-set_other ls x y a 0 q in
          (omega (arith, get_or-set_same ls x a 0 h), omega (arith, get_or-set_same ls x a 0 h, o, c.lowest y (record { arc = e; is_open = record { unused = u; free = u }; reached = omega (arith, o) })))

  pub mends_kept : {l y : ℕ} → Choice g ls (Unmarked used used) x l y → get_or ls x 0 ≤ l → get_or ls x 0 < far → Mends g used x ls ls
  mends_kept c hi b = record { raises = raises_none x ls; fits = record { along = λ y e u k. (b, omega (arith, c.lowest y (record { arc = e; is_open = record { unused = u; free = u }; reached = k }))) } }

  -- with no exit it may be the mark
  pub mends_far : x < length ls → get_or ls x 0 ≤ far → ((z : ℕ) → Exit g ls (Unmarked used used) x z → ⊥) → Mends g used x ls (set ls x far)
  mends_far h lo none = record { raises = raises_set x far ls h lo; fits = record { along = λ y e u k. by_case y e u k (ℕ_discrete y x) } }
    where
      by_case : (y : ℕ) → linked g x y ≡ true → get_or used y false ≡ false → get_or (set ls x far) y 0 < far → Dec (y ≡ x) → (get_or (set ls x far) x 0 < far) × (get_or (set ls x far) x 0 ≤ weight g x y + get_or (set ls x far) y 0)
      by_case y e u k (yes q) = absurd (omega (arith, get_or-set_same ls x far 0 h, ap (λ (j : ℕ). get_or (set ls x far) j 0) q))
      by_case y e u k (no q) = absurd (none y (record { arc = e; is_open = record { unused = u; free = u }; reached = omega (arith, get_or-set_other ls x y far 0 q) }))
