-- The ranking order is a strict total order, and `ranked` has the paths in it, each once. Assumes nothing.
use Prim.Native.Nat.{ℕ, zero, suc, ◌≤◌, ◌<◌}
use native.Mathlib.Omega.{arith}
use mathlib.Core.Path.{◌≡◌, refl, sym, ◌∙◌, ap, ap₂, subst}
use mathlib.Core.Bool.{Bool, true, false, ◌&&◌}
use mathlib.Core.Logic.{◌⊎◌, inl, inr, ⊎_elim}
use mathlib.Core.List.Memᴰ
use mathlib.Core.List.{List, [], ◌∷◌, ◌++◌}
use lib.Dec.{eqb, ltb}
use lib.ListN.{length, take, get_or, length-take}
use lib.Seq.{take_all}
use borrow.Author.Tests.{eqb-true, eq-eqb, ne_eqb, ltb-true, ltb-false, lt-ltb, le-ltb}
use Rattle.terms.specs.Lists.{◌∈◌, keep}
use Rattle.terms.specs.Network.{Graph}
use Rattle.terms.specs.Paths.{Route, Path, cost, paths}
use Rattle.terms.specs.Ranking.{by_first, lex, before, insert, sort, ranked}
use Rattle.terms.proofs.ListLaws.{split, clash, by_cond, or_cases, or_false, and_both, mem_keep, keep_mem, get_or_mem}
use Rattle.terms.proofs.PathLaws.{Within, listed_path, path_listed}

-- ---- by_first, of which both orders are made: a smaller number, or an equal one and the rest
pub by_first_true : (a b : ℕ) (r : Bool) → by_first a b r ≡ true → (a < b) ⊎ ((a ≡ b) × (r ≡ true))
unfolding by_first
by_first_true a b r e = ⊎_elim (λ h. inl (ltb-true a b h)) (λ h. let k = and_both (eqb a b) r h in inr (eqb-true a b k.0, k.1)) (or_cases e)

pub by_first_lt : (a b : ℕ) (r : Bool) → a < b → by_first a b r ≡ true
unfolding by_first
by_first_lt a b r h = rw (lt-ltb a b h)

pub by_first_gt : (a b : ℕ) (r : Bool) → b < a → by_first a b r ≡ false
unfolding by_first
by_first_gt a b r h = rw (le-ltb a b (omega arith), ne_eqb a b (λ e. omega arith))

pub by_first_eq : (a b : ℕ) (r : Bool) → a ≡ b → by_first a b r ≡ r
unfolding by_first
by_first_eq a b r e = rw (le-ltb a b (omega arith), eq-eqb a b e)

pub by_first_trans : (a b c : ℕ) (r r' r'' : Bool) → (r ≡ true → r' ≡ true → r'' ≡ true) → by_first a b r ≡ true → by_first b c r' ≡ true → by_first a c r'' ≡ true
by_first_trans a b c r r' r'' tr d e = go (by_first_true a b r d) (by_first_true b c r' e)
  where
    go : (a < b) ⊎ ((a ≡ b) × (r ≡ true)) → (b < c) ⊎ ((b ≡ c) × (r' ≡ true)) → by_first a c r'' ≡ true
    go (inl h) (inl k) = by_first_lt a c r'' (omega arith)
    go (inl h) (inr k) = by_first_lt a c r'' (omega arith)
    go (inr h) (inl k) = by_first_lt a c r'' (omega arith)
    go (inr h) (inr k) = by_first_eq a c r'' (h.0 ∙ k.0) ∙ tr h.1 k.1

-- neither way: the numbers are equal, and the rest fails both ways
by_first_false : (a b : ℕ) (r r' : Bool) → by_first a b r ≡ false → by_first b a r' ≡ false → (a ≡ b) × (r ≡ false) × (r' ≡ false)
unfolding by_first
by_first_false a b r r' p q = (e, sym (by_first_eq a b r e) ∙ p, sym (by_first_eq b a r' (sym e)) ∙ q)
  where
    e : a ≡ b
    e = omega (arith, ltb-false a b (or_false (ltb a b) (eqb a b && r) p).0, ltb-false b a (or_false (ltb b a) (eqb b a && r') q).0)

-- ---- the order of node lists is strict and total
lex_irrefl : (p : Route) → lex p p ≡ false
unfolding lex
lex_irrefl [] = refl
lex_irrefl (x ∷ p) = by_first_eq x x (lex p p) refl ∙ lex_irrefl p

lex_trans : (p q r : Route) → lex p q ≡ true → lex q r ≡ true → lex p r ≡ true
unfolding lex
lex_trans [] [] r d e = clash d refl
lex_trans [] (y ∷ q) [] d e = e
lex_trans [] (y ∷ q) (z ∷ r) d e = refl
lex_trans (x ∷ p) [] r d e = clash d refl
lex_trans (x ∷ p) (y ∷ q) [] d e = e
lex_trans (x ∷ p) (y ∷ q) (z ∷ r) d e = by_first_trans x y z (lex p q) (lex q r) (lex p r) (lex_trans p q r) d e

lex_connected : (p q : Route) → lex p q ≡ false → lex q p ≡ false → p ≡ q
unfolding lex
lex_connected [] [] d e = refl
lex_connected [] (y ∷ q) d e = clash refl d
lex_connected (x ∷ p) [] d e = clash refl e
lex_connected (x ∷ p) (y ∷ q) d e = let h = by_first_false x y (lex p q) (lex q p) d e in ap₂ (λ a l. a ∷ l) h.0 (lex_connected p q h.1 h.2)

module _ (g : Graph) where
  -- ---- so is the ranking order, and it does not put a dearer path first
  pub before_irrefl : (p : Route) → before g p p ≡ false
  unfolding before
  before_irrefl p = by_first_eq (cost g p) (cost g p) (lex p p) refl ∙ lex_irrefl p

  pub before_trans : (p q r : Route) → before g p q ≡ true → before g q r ≡ true → before g p r ≡ true
  unfolding before
  before_trans p q r d e = by_first_trans (cost g p) (cost g q) (cost g r) (lex p q) (lex q r) (lex p r) (lex_trans p q r) d e

  pub before_connected : (p q : Route) → before g p q ≡ false → before g q p ≡ false → p ≡ q
  unfolding before
  before_connected p q d e = let h = by_first_false (cost g p) (cost g q) (lex p q) (lex q p) d e in lex_connected p q h.1 h.2

  pub before_asym : (p q : Route) → before g p q ≡ true → before g q p ≡ true → ⊥
  before_asym p q d e = clash (before_trans p q p d e) (before_irrefl p)

  pub before_cost : (p q : Route) → before g p q ≡ true → cost g p ≤ cost g q
  unfolding before
  before_cost p q d = ⊎_elim (λ h. omega arith) (λ h. omega arith) (by_first_true (cost g p) (cost g q) (lex p q) d)

  -- p is no later than q: q is p, or p comes before it
  abbrev pub NoLater : Route → Route → Type 0
  NoLater p q = (q ≡ p) ⊎ (before g p q ≡ true)

  pub no_later_antisym : {p q : Route} → NoLater p q → NoLater q p → p ≡ q
  no_later_antisym (inl e) k = sym e
  no_later_antisym (inr b) (inl e) = e
  no_later_antisym {p} {q} (inr b) (inr c) = absurd (before_asym p q b c)

  -- of two paths one is before the other, or no later than it
  pub before_or_no_later : (p q : Route) → (before g p q ≡ true) ⊎ NoLater q p
  before_or_no_later p q = ⊎_elim (λ b. inl b) (λ b. ⊎_elim (λ c. inr (inr c)) (λ c. inr (inl (before_connected p q b c))) (split (before g q p))) (split (before g p q))

  -- ---- lists in strictly rising order
  -- p is before each of l
  abbrev pub Above : Route → List Route → Type 0
  Above p l = (q : Route) → q ∈ l → before g p q ≡ true

  pub data Rising : List Route → Type 0 where
    none_left : Rising []
    first : {p : Route} {l : List Route} → Above p l → Rising l → Rising (p ∷ l)

  -- the three cases of insert
  insert_cases : (P : List Route → Type 0) (p x : Route) (l : List Route)
      → (before g p x ≡ true → P (p ∷ x ∷ l)) → (before g x p ≡ true → P (x ∷ insert g p l)) → (p ≡ x → P (x ∷ l)) → P (insert g p (x ∷ l))
  unfolding insert
  insert_cases P p x l lt gt eq = by_cond P (before g p x) lt (λ d. by_cond P (before g x p) gt (λ e. eq (before_connected p x d e)))

  -- insert adds p to the members and keeps the order
  insert_mem : (p : Route) {q : Route} (l : List Route) → q ∈ insert g p l → (q ≡ p) ⊎ (q ∈ l)
  unfolding insert
  insert_mem p [] m = inl (Memᴰ.eq_of_singleton m)
  insert_mem p {q} (x ∷ l) m =
      insert_cases (λ k. q ∈ k → (q ≡ p) ⊎ (q ∈ x ∷ l)) p x l (λ _ k. Memᴰ.cases_cons k) (λ _ k. later (insert_mem p l) (Memᴰ.cases_cons k)) (λ _ k. inr k) m
    where
      later : (q ∈ insert g p l → (q ≡ p) ⊎ (q ∈ l)) → (q ≡ x) ⊎ (q ∈ insert g p l) → (q ≡ p) ⊎ (q ∈ x ∷ l)
      later ih (inl e) = inr (Memᴰ.head e)
      later ih (inr k) = ⊎_elim (λ e. inl e) (λ h. inr (Memᴰ.tail h)) (ih k)

  mem_insert_self : (p : Route) (l : List Route) → p ∈ insert g p l
  unfolding insert
  mem_insert_self p [] = Memᴰ.head refl
  mem_insert_self p (x ∷ l) =
      insert_cases (λ k. p ∈ k) p x l (λ _. Memᴰ.head refl) (λ _. Memᴰ.tail (mem_insert_self p l)) (λ e. Memᴰ.head e)

  mem_insert : (p : Route) {q : Route} {l : List Route} → q ∈ l → q ∈ insert g p l
  mem_insert p {q} (Memᴰ.head {x} {xs = l} e) =
      insert_cases (λ k. q ∈ k) p x l (λ _. Memᴰ.tail (Memᴰ.head e)) (λ _. Memᴰ.head e) (λ _. Memᴰ.head e)
  mem_insert p {q} (Memᴰ.tail {x} {xs = l} m) =
      insert_cases (λ k. q ∈ k) p x l (λ _. Memᴰ.tail (Memᴰ.tail m)) (λ _. Memᴰ.tail (mem_insert p m)) (λ _. Memᴰ.tail m)

  above_cons : (p : Route) {x : Route} {l : List Route} → before g p x ≡ true → Above x l → Above p (x ∷ l)
  above_cons p {x} b a q m = ⊎_elim (λ e. rw e b) (λ k. before_trans p x q b (a q k)) (Memᴰ.cases_cons m)

  insert_rising : (p : Route) {l : List Route} → Rising l → Rising (insert g p l)
  unfolding insert
  insert_rising p none_left = first {p = p} {l = []} (λ q m. elim m [ ]) none_left
  insert_rising p (first {p = x} {l} a r) =
      insert_cases Rising p x l (λ b. first (above_cons p b a) (first a r)) (λ b. first (λ q m. ⊎_elim (λ e. rw e b) (a q) (insert_mem p l m)) (insert_rising p r)) (λ _. first a r)

  -- ---- sorting keeps the members and makes them rise
  sort_rising : (l : List Route) → Rising (sort g l)
  unfolding sort
  sort_rising [] = none_left
  sort_rising (p ∷ l) = insert_rising p (sort_rising l)

  mem_sort : {p : Route} {l : List Route} → p ∈ l → p ∈ sort g l
  unfolding sort
  mem_sort {p} (Memᴰ.head {x} {xs = l} e) = Memᴰ.cast e (mem_insert_self x (sort g l))
  mem_sort {p} (Memᴰ.tail {x} {xs = l} m) = mem_insert x (mem_sort m)

  sort_mem : {p : Route} (l : List Route) → p ∈ sort g l → p ∈ l
  unfolding sort
  sort_mem [] m = m
  sort_mem {p} (x ∷ l) m = ⊎_elim (λ e. Memᴰ.head e) (λ k. Memᴰ.tail (sort_mem l k)) (insert_mem x (sort g l) m)

  -- ---- what a rising list is good for
  -- its head is no later than each
  above_no_later : {p q : Route} {l : List Route} → Above p l → q ∈ p ∷ l → NoLater p q
  above_no_later {q} a m = ⊎_elim (λ e. inl e) (λ k. inr (a q k)) (Memᴰ.cases_cons m)

  pub head_first : {p q : Route} {l : List Route} → Rising (p ∷ l) → q ∈ p ∷ l → NoLater p q
  head_first (first a r) m = above_no_later a m

  -- what a test keeps of it is rising, so the first that passes is the least that passes
  pub keep_rising : (f : Route → Bool) {l : List Route} → Rising l → Rising (keep f l)
  unfolding keep
  keep_rising f none_left = none_left
  keep_rising f (first {p} {l} a r) = by_cond Rising (f p) (λ _. first (λ q m. a q (keep_mem f l m).0) (keep_rising f r)) (λ _. keep_rising f r)

  pub first_kept : (f : Route → Bool) {p q : Route} {l k : List Route} → Rising l → keep f l ≡ p ∷ k → q ∈ l → f q ≡ true → NoLater p q
  first_kept f {p} {q} {l} {k} r e m t = head_first (subst Rising e (keep_rising f r)) (subst (λ (z : List Route). q ∈ z) e (mem_keep f m t))

  -- its places are in order
  pub rising_at : (i j : ℕ) {l : List Route} → Rising l → i < j → j < length l → before g (get_or l i []) (get_or l j []) ≡ true
  rising_at i zero r h k = absurd (omega arith)
  rising_at i (suc j) none_left h k = absurd (omega arith)
  rising_at zero (suc j) (first {p} {l} a r) h k = a (get_or l j []) (get_or_mem l [] j (omega arith))
  rising_at (suc i) (suc j) (first a r) h k = rising_at i j r (omega arith) (omega arith)

  -- a member that comes before the one at place j is among the first j; each other is no earlier than that one
  pub rising_earlier : (j : ℕ) {l : List Route} {q : Route} → Rising l → j < length l → q ∈ l → before g q (get_or l j []) ≡ true → q ∈ take j l
  rising_earlier j none_left h m b = elim m [ ]
  rising_earlier zero {q} (first {p} a r) h m b = absurd (⊎_elim (λ e. clash (rw e at b) (before_irrefl p)) (λ c. before_asym p q c b) (above_no_later a m))
  rising_earlier (suc j) (first a r) h m b = ⊎_elim (λ e. Memᴰ.head e) (λ k. Memᴰ.tail (rising_earlier j r (omega arith) k b)) (Memᴰ.cases_cons m)

  pub rising_split : (j : ℕ) {l : List Route} {q : Route} → Rising l → j < length l → q ∈ l → (q ∈ take j l) ⊎ NoLater (get_or l j []) q
  rising_split j {l} {q} r h m = ⊎_elim (λ b. inl (rising_earlier j r h m b)) (λ n. inr n) (before_or_no_later q (get_or l j []))

  -- ---- the order leaves no choice
  past : {p q x : Route} {l : List Route} → p ≡ q → before g p x ≡ true → x ∈ q ∷ l → x ∈ l
  past {p} {x} e b m = ⊎_elim (λ d. let z : x ≡ p = d ∙ sym e in clash (rw z at b) (before_irrefl p)) (λ k. k) (Memᴰ.cases_cons m)

  -- a rising list of members of l, which comes before each other member of l, is the beginning of l
  pub rising_prefix : {k l : List Route} → Rising k → Rising l → ((p : Route) → p ∈ k → p ∈ l)
      → ((p : Route) → p ∈ l → (p ∈ k) ⊎ ((q : Route) → q ∈ k → before g q p ≡ true)) → k ≡ take (length k) l
  rising_prefix none_left u i j = refl
  rising_prefix (first {p} a r) none_left i j = elim (i p (Memᴰ.head refl)) [ ]
  rising_prefix (first {p} {l = k} a r) (first {p = q} {l} b u) i j =
      ap₂ (λ x z. x ∷ z) e
      (rising_prefix r u (λ x m. past e (a x m) (i x (Memᴰ.tail m))) (λ x m. ⊎_elim (λ h. inl (past (sym e) (b x m) h)) (λ h. inr (λ y o. h y (Memᴰ.tail o))) (j x (Memᴰ.tail m))))
    where
      e : p ≡ q
      e = no_later_antisym (⊎_elim (above_no_later a) (λ h. inr (h p (Memᴰ.head refl))) (j q (Memᴰ.head refl))) (above_no_later b (i p (Memᴰ.head refl)))

  -- rising lists with the same members are equal
  pub rising_unique : {k l : List Route} → Rising k → Rising l → ((p : Route) → p ∈ k → p ∈ l) → ((p : Route) → p ∈ l → p ∈ k) → k ≡ l
  rising_unique {k} {l} r u i j =
      let back : l ≡ take (length l) k = rising_prefix u r j (λ p m. inl (i p m)) in
      rising_prefix r u i (λ p m. inl (j p m)) ∙ take_all (length k) l (omega (arith, ap length back, length-take (length l) k))

  -- one more at the end
  rising_snoc : (p : Route) {k : List Route} → Rising k → ((q : Route) → q ∈ k → before g q p ≡ true) → Rising (k ++ (p ∷ []))
  rising_snoc p none_left h = first {p = p} {l = []} (λ q m. elim m [ ]) none_left
  rising_snoc p (first {p = x} {l} a r) h =
      first
      (λ q m. ⊎_elim (a q) (λ o. let e : q ≡ p = Memᴰ.eq_of_singleton o in rw e (h x (Memᴰ.head refl))) (Memᴰ.append_cases l m))
      (rising_snoc p r (λ q m. h q (Memᴰ.tail m)))

  -- the next of a ranking: k is its beginning, and p comes next
  pub rising_next : {k l : List Route} {p : Route} → Rising l → Rising k → ((q : Route) → q ∈ k → q ∈ l) → p ∈ l → ((q : Route) → q ∈ k → before g q p ≡ true)
      → ((q : Route) → q ∈ l → (q ∈ k) ⊎ NoLater p q) → k ++ (p ∷ []) ≡ take (length (k ++ (p ∷ []))) l
  rising_next {k} {l} {p} u r i m h j = rising_prefix (rising_snoc p r h) u inside (λ q o. sort_out q (j q o))
    where
      inside : (q : Route) → q ∈ k ++ (p ∷ []) → q ∈ l
      inside q o = ⊎_elim (i q) (λ z. Memᴰ.cast (Memᴰ.eq_of_singleton z) m) (Memᴰ.append_cases k o)

      far : (q : Route) → before g p q ≡ true → (x : Route) → x ∈ k ++ (p ∷ []) → before g x q ≡ true
      far q b x o = ⊎_elim (λ z. before_trans x p q (h x z) b) (λ z. let e : x ≡ p = Memᴰ.eq_of_singleton z in rw e b) (Memᴰ.append_cases k o)

      sort_out : (q : Route) → (q ∈ k) ⊎ NoLater p q → (q ∈ k ++ (p ∷ [])) ⊎ ((x : Route) → x ∈ k ++ (p ∷ []) → before g x q ≡ true)
      sort_out q (inl z) = inl (Memᴰ.append_left (p ∷ []) z)
      sort_out q (inr (inl e)) = inl (Memᴰ.append_right k (Memᴰ.head e))
      sort_out q (inr (inr b)) = inr (far q b)

-- ---- the order goes by the costs and the nodes alone
pub before_same : (g h : Graph) (p q : Route) → cost g p ≡ cost h p → cost g q ≡ cost h q → before g p q ≡ before h p q
unfolding before
before_same g h p q a b = ap₂ (λ x y. by_first x y (lex p q)) a b

pub rising_same : {g h : Graph} {l : List Route} → ((p q : Route) → p ∈ l → q ∈ l → before g p q ≡ before h p q) → Rising g l → Rising h l
rising_same c none_left = none_left
rising_same c (first {p} a r) = first (λ q m. sym (c p q (Memᴰ.head refl) (Memᴰ.tail m)) ∙ a q m) (rising_same (λ x y m n. c x y (Memᴰ.tail m) (Memᴰ.tail n)) r)

-- ---- `ranked` has the members of `paths`, strictly rising
pub ranked_rising : (n : ℕ) (g : Graph) (s t : ℕ) → Rising g (ranked n g s t)
unfolding ranked
ranked_rising n g s t = sort_rising g (paths n g s t)

pub mem_ranked : (n : ℕ) (g : Graph) (s t : ℕ) {p : Route} → p ∈ paths n g s t → p ∈ ranked n g s t
unfolding ranked
mem_ranked n g s t m = mem_sort g m

pub ranked_mem : (n : ℕ) (g : Graph) (s t : ℕ) {p : Route} → p ∈ ranked n g s t → p ∈ paths n g s t
unfolding ranked
ranked_mem n g s t m = sort_mem g (paths n g s t) m

-- so it has the paths from s to t and nothing else
pub ranked_path : (n : ℕ) (g : Graph) (s t : ℕ) {p : Route} → p ∈ ranked n g s t → Path g s t p
ranked_path n g s t m = listed_path n (ranked_mem n g s t m)

pub path_ranked : (n : ℕ) (g : Graph) (s t : ℕ) {p : Route} → Within n g → 1 ≤ s → s ≤ n → Path g s t p → p ∈ ranked n g s t
path_ranked n g s t w lo hi p = mem_ranked n g s t (path_listed n w lo hi p)
