-- The search among the arcs out of a node: what the arcs' numbers say of the exits, and how a scan of them goes on. Assumes nothing.
use Prim.Native.Nat.{ℕ, ◌+◌, ◌≤◌, ◌<◌}
use native.Mathlib.Omega.{arith}
use native.Mathlib.Nat.{eq-or-lt_of_le}
use mathlib.Core.Path.{◌≡◌, refl, sym, ◌∙◌}
use mathlib.Core.Bool.{Bool, true, false, not, ◌&&◌}
use mathlib.Core.Logic.{◌⊎◌, inl, inr, ⊎_elim}
use mathlib.Core.List.{List}
use lib.Dec.{ltb}
use lib.ListN.{length, get_or}
use borrow.Author.Tests.{ltb-true, lt-ltb, not-true}
use Rattle.terms.specs.Network.{linked, weight}
use Rattle.terms.proofs.ListLaws.{le_or_lt, by_cond, of_cond, and_both}
use Rattle.star.specs.Arcs.{graph, Arcs, At}
use Rattle.labels.specs.Labels.{far}
use Rattle.star.proofs.ArcLaws.{linked_at, at_linked, at_weight}
use Rattle.exits.specs.Walks.{Exit, Choice, Tight}
use Rattle.exits.specs.Exits.{Unmarked, Unused, via, via_arc, Best, Scanned, Usable, Chosen}
use Rattle.star.specs.Star.{Star, Heads}
use Rattle.exits.specs.Small.{longest}
use Rattle.star.proofs.StarLaws.{up_to, arc_at, arc_among}
use Rattle.exits.specs.declared.stepping.Step.{Step}
use Rattle.std.specs.Prelude.{Option, Some, None}

-- ---- weight and label of an arc: below the mark exactly if its head is open and reached
module _ (ls : List ℕ) (used barred : List Bool) (y w : ℕ) where
  pub via_open : Unmarked used barred y → get_or ls y 0 < far → via ls used barred y w ≡ w + get_or ls y 0
  unfolding via
  via_open u k = rw (u.unused, u.free, lt-ltb (get_or ls y 0) far k)

  tests : (not (get_or used y false) && (not (get_or barred y false) && ltb (get_or ls y 0) far)) ≡ true → Unmarked used barred y × (get_or ls y 0 < far)
  tests t =
      let a = and_both (not (get_or used y false)) (not (get_or barred y false) && ltb (get_or ls y 0) far) t in
      let b = and_both (not (get_or barred y false)) (ltb (get_or ls y 0) far) a.1 in
      (record { unused = not-true (get_or used y false) a.0; free = not-true (get_or barred y false) b.0 }, ltb-true (get_or ls y 0) far b.1)

  pub via_shut : (Unmarked used barred y → get_or ls y 0 < far → ⊥) → via ls used barred y w ≡ far
  unfolding via
  via_shut n = by_cond (λ (x : ℕ). x ≡ far) _ (λ t. let h = tests t in absurd (n h.0 h.1)) (λ _. refl)

  -- it is one of the two
  pub via_either : (via ls used barred y w ≡ far) ⊎ ((get_or ls y 0 < far) × (via ls used barred y w ≡ w + get_or ls y 0))
  unfolding via
  via_either = by_cond (λ (x : ℕ). (x ≡ far) ⊎ ((get_or ls y 0 < far) × (x ≡ w + get_or ls y 0))) _ (λ t. inr ((tests t).1, refl)) (λ _. inl refl)

  pub via_most : w ≤ 4294967295 → (get_or ls y 0 < far → get_or ls y 0 ≤ longest) → via ls used barred y w ≤ far
  via_most h small = ⊎_elim (λ e. omega arith) (λ e. omega (arith, small e.0)) via_either

  -- it is no less than a number to which the label does not come
  pub via_no_less : {best : ℕ} → best ≤ far → best ≤ w + get_or ls y 0 → best ≤ via ls used barred y w
  via_no_less h k = ⊎_elim (λ e. omega arith) (λ e. omega arith) via_either

  via_below : via ls used barred y w < far → Unmarked used barred y × (get_or ls y 0 < far) × (via ls used barred y w ≡ w + get_or ls y 0)
  unfolding via
  via_below h = ⊎_elim (λ t. let k = tests t.0 in (k.0, k.1, via_open k.0 k.1)) (λ t. absurd (omega arith)) (of_cond (λ (x : ℕ). x < far) _ h)

-- ---- a scan of the arcs at the indices from a on, up to i
-- the least number so far
abbrev pub least_of : Option Step → ℕ
least_of None = far
least_of (Some s) = s.rest

module _ (number : ℕ → ℕ) (hs : List ℕ) (a : ℕ) where
  -- each number so far is at least that
  least_so_far : (i : ℕ) (r : Option Step) → Scanned number hs a i r → (j : ℕ) → a ≤ j → j < i → least_of r ≤ number j
  least_so_far i None n j lo hi = omega (arith, n j lo hi)
  least_so_far i (Some s) b j lo hi = b.least j lo hi

  least_le : (i : ℕ) (r : Option Step) → Scanned number hs a i r → least_of r ≤ far
  least_le i None n = omega arith
  least_le i (Some s) b = omega (arith, b.below)

  -- a smaller number
  pub scan_take : (i : ℕ) {x : ℕ} (r : Option Step) → a ≤ i → number i ≡ x → x < least_of r → Scanned number hs a i r → Scanned number hs a (i + 1) (Some (record { node = get_or hs i 0; rest = x }))
  scan_take i {x} r lo e less s = record {
    place = i;
    lower = lo;
    upper = omega arith;
    has = e;
    below = omega (arith, least_le i r s);
    node = refl;
    least = up_to (λ j. x ≤ number j) a i (λ j lo hi. omega (arith, least_so_far i r s j lo hi)) (omega arith);
    earlier_more = λ j lo hi. omega (arith, least_so_far i r s j lo hi);
  }

  -- one that is not
  pub scan_pass : (i : ℕ) (r : Option Step) → least_of r ≤ number i → number i ≤ far → Scanned number hs a i r → Scanned number hs a (i + 1) r
  scan_pass i None more top n = up_to (λ j. number j ≡ far) a i n (omega arith)
  scan_pass i (Some s) more top b = record {
    place = b.place;
    lower = b.lower;
    upper = omega (arith, b.upper);
    has = b.has;
    below = b.below;
    node = b.node;
    least = up_to (λ j. s.rest ≤ number j) a i b.least (omega arith);
    earlier_more = b.earlier_more;
  }

-- ---- the arcs out of v are those at its indices
module _ {n : ℕ} {ts hs ws first : List ℕ} (arcs : Arcs n ts hs ws) (star : Star n ts hs first) {v : ℕ} (node : v ≤ n) where
  -- arc i goes out of v
  index_arc : (i : ℕ) → get_or first v 0 ≤ i → i < get_or first (v + 1) 0 → At ts hs v (get_or hs i 0) i
  index_arc i lo hi = arc_at star node i lo hi refl

  arc_index : (z : ℕ) → linked (graph ts hs ws) v z ≡ true → (i : ℕ) × (get_or first v 0 ≤ i) × (i < get_or first (v + 1) 0) × At ts hs v z i
  arc_index z a =
      let r = linked_at arcs v z a in
      let b = arc_among star node r.1 in
      (r.0, b.0, b.1, r.1)

  -- of two of them the one with the smaller index has the smaller head
  head_le : (i j : ℕ) → get_or first v 0 ≤ i → i ≤ j → j < get_or first (v + 1) 0 → get_or hs i 0 ≤ get_or hs j 0
  head_le i j lo le hi =
      ⊎_elim (λ e. rw e (omega arith)) (λ k. omega (arith, star.rising i j k (index_arc j (omega arith) hi).below ((index_arc i lo (omega arith)).tail_is ∙ sym (index_arc j (omega arith) hi).tail_is))) (eq-or-lt_of_le le)

  -- ---- the best of their numbers is the choice
  module _ (ls : List ℕ) (used barred : List Bool) where
    -- an exit has its weight and label as number
    exit_number : {z : ℕ} → Exit (graph ts hs ws) ls (Unmarked used barred) v z → (i : ℕ) × (get_or first v 0 ≤ i) × (i < get_or first (v + 1) 0) × (get_or hs i 0 ≡ z) × (via_arc hs ws ls used barred i ≡ weight (graph ts hs ws) v z + get_or ls z 0)
    exit_number {z} x =
        let r = arc_index z x.arc in
        (r.0, r.1, r.2, r.3.head_is, rw (r.3.head_is, at_weight arcs r.3) (via_open ls used barred z (get_or ws r.0 0) x.is_open x.reached))

    best_choice : {l y : ℕ} → Best (via_arc hs ws ls used barred) hs (get_or first v 0) (get_or first (v + 1) 0) l y → Choice (graph ts hs ws) ls (Unmarked used barred) v l y
    best_choice {l} {y} b = record {
      exit = rw (← b.node) (record { arc = at_linked arcs at; is_open = k.0; reached = k.1 });
      attains = rw (← b.node, at_weight arcs at, ← k.2) b.has;
      lowest = λ z x. let e = exit_number x in omega (arith, b.least e.0 e.1 e.2, e.4);
      smallest = λ z x p. let e = exit_number x in
          ⊎_elim (λ h. omega (arith, head_le b.place e.0 b.lower h e.2, b.node, e.3)) (λ h. absurd (omega (arith, b.earlier_more e.0 e.1 h, e.4))) (le_or_lt b.place e.0);
    }
      where
        at : At ts hs v (get_or hs b.place 0) b.place
        at = index_arc b.place b.lower b.upper

        k : Unmarked used barred (get_or hs b.place 0) × (get_or ls (get_or hs b.place 0) 0 < far) × (via_arc hs ws ls used barred b.place ≡ get_or ws b.place 0 + get_or ls (get_or hs b.place 0) 0)
        k = via_below ls used barred (get_or hs b.place 0) (get_or ws b.place 0) (omega (arith, b.has, b.below))

    no_choice : ((v : ℕ) → get_or ls v 0 < far → get_or ls v 0 ≤ longest) → ((j : ℕ) → get_or first v 0 ≤ j → j < get_or first (v + 1) 0 → via_arc hs ws ls used barred j ≡ far) → (z : ℕ) → Exit (graph ts hs ws) ls (Unmarked used barred) v z → ⊥
    no_choice low none z x =
        let e = exit_number x in
        let a = arc_index z x.arc in
        omega (arith, none e.0 e.1 e.2, e.4, low z x.reached, at_weight arcs a.3, arcs.light a.0 a.3.below)

    pub scanned_chosen : (r : Option Step) → ((v : ℕ) → get_or ls v 0 < far → get_or ls v 0 ≤ longest) → Scanned (via_arc hs ws ls used barred) hs (get_or first v 0) (get_or first (v + 1) 0) r → Chosen (graph ts hs ws) ls (Unmarked used barred) v r
    scanned_chosen None low f = no_choice low f
    scanned_chosen (Some s) low b = best_choice b

  -- ---- the first that keeps to the label is the tight step
  pub first_tight : (ls : List ℕ) (used : List Bool) (i : ℕ) → get_or first v 0 ≤ i → i < get_or first (v + 1) 0 → get_or ls v 0 < far → get_or used (get_or hs i 0) false ≡ false → get_or ws i 0 + get_or ls (get_or hs i 0) 0 ≡ get_or ls v 0
      → ((j : ℕ) → get_or first v 0 ≤ j → j < i → get_or used (get_or hs j 0) false ≡ false → get_or ws j 0 + get_or ls (get_or hs j 0) 0 ≡ get_or ls v 0 → ⊥) → Tight (graph ts hs ws) ls (Unused used) v (get_or hs i 0)
  first_tight ls used i lo hi reached unused same earlier =
      record { exit = record { arc = at_linked arcs at; is_open = unused; reached = omega arith }; keeps = rw (at_weight arcs at) same; smallest = later }
    where
      at : At ts hs v (get_or hs i 0) i
      at = index_arc i lo hi

      later : (z : ℕ) → Exit (graph ts hs ws) ls (Unused used) v z → weight (graph ts hs ws) v z + get_or ls z 0 ≡ get_or ls v 0 → get_or hs i 0 ≤ z
      later z x e =
          let r = arc_index z x.arc in
          ⊎_elim (λ h. rw (← r.3.head_is) (head_le i r.0 lo h r.2)) (λ h. absurd (earlier r.0 r.1 h (rw r.3.head_is x.is_open) (rw (r.3.head_is, ← at_weight arcs r.3) e))) (le_or_lt i r.0)

-- ---- the node that was found can be used
pub scanned_usable : {k : ℕ} {hs ws : List ℕ} (ls : List ℕ) (used barred : List Bool) (a e : ℕ) (r : Option Step) → Heads k hs ws → e ≤ length hs → Scanned (via_arc hs ws ls used barred) hs a e r → Usable k used r
scanned_usable ls used barred a e None h top f = tt
scanned_usable {hs = hs} {ws = ws} ls used barred a e (Some s) h top b =
    let k = via_below ls used barred (get_or hs b.place 0) (get_or ws b.place 0) (omega (arith, b.has, b.below)) in
    let i : b.place < length hs = omega (arith, b.upper) in
    rw (← b.node) (record { from = h.head_from b.place i; upto = h.head_in b.place i; unflagged = k.0.unused })
