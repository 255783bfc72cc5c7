-- Row 14's place, from the first error of a node list. Assumes nothing.
-- ---- distinct nodes of 1 to n are at most n
use Prim.Native.Nat.{ℕ, zero, suc, ◌+◌, ◌-◌, ◌≤◌, ◌<◌}
use native.Mathlib.Omega.{arith}
use native.Mathlib.Nat.{eq-or-lt_of_le}
use mathlib.Core.Path.{◌≡◌, refl, sym, ◌∙◌, ap}
use mathlib.Core.Bool.{true, false, not, ◌&&◌, cond}
use mathlib.Core.Logic.{⊎_elim}
use mathlib.Core.List.Memᴰ
use mathlib.Core.List.{List, [], ◌∷◌}
use mathlib.Core.Option.{Option, none, some}
use lib.Dec.{eqb}
use lib.ListN.{length, get_or, drop, drop_of_length-le}
use lib.Seq.{drop-cons}
use borrow.Author.Tests.{eq-eqb, ne_eqb, not-true}
use Rattle.terms.specs.Lists.{◌∈◌, elem, numbers}
use Rattle.terms.specs.Network.{Graph, linked}
use Rattle.terms.specs.Paths.{Loopless, empty, fresh}
use Rattle.terms.specs.Regret.{fault, fault_after}
use Rattle.terms.proofs.ListLaws.{split, and_both, outside_cons, cons_outside, keep_length, length_numbers}
use Rattle.terms.proofs.PathLaws.{unseen, unseen_lt}
use Rattle.star.specs.Arcs.{graph, Arcs}
use Rattle.star.proofs.ArcLaws.{linked_at, at_linked}
use Rattle.image.specs.Outcome.{sound}
use Rattle.outcomes.specs.Calls.{list_row}
use Rattle.loading.specs.Accepted.{Node}
use Rattle.network_calls.specs.NodeLists.{GoesOn, FirstError}

distinct_le : (n : ℕ) {p : List ℕ} → Loopless p → ((x : ℕ) → x ∈ p → Node n x) → length p + length (unseen n p) ≤ n
unfolding unseen
distinct_le n empty h = omega (arith, keep_length (λ (x : ℕ). not (elem x [])) (numbers 1 n), length_numbers 1 n)
distinct_le n (fresh {v} {p} u l) h =
    let node = h v (Memᴰ.head refl) in
    omega (arith, unseen_lt n p v node.from node.upto u, distinct_le n l (λ x m. h x (Memᴰ.tail m)))

-- ---- the nodes before position i, the last first
unfoldable seen : List ℕ → ℕ → List ℕ
seen nodes zero = []
seen nodes (suc i) = get_or nodes i 0 ∷ seen nodes i

length_seen : (nodes : List ℕ) (i : ℕ) → length (seen nodes i) ≡ i
unfolding seen
length_seen nodes zero = refl
length_seen nodes (suc i) = ap suc (length_seen nodes i)

unseen_before : (nodes : List ℕ) (x i : ℕ) → ((j : ℕ) → j < i → get_or nodes j 0 ≡ x → ⊥) → elem x (seen nodes i) ≡ false
unfolding seen elem
unseen_before nodes x zero new = refl
unseen_before nodes x (suc i) new = cons_outside x (get_or nodes i 0) (seen nodes i) (λ e. new i (omega arith) (sym e)) (unseen_before nodes x i (λ j h. new j (omega arith)))

new_before : (nodes : List ℕ) (x i : ℕ) → elem x (seen nodes i) ≡ false → (j : ℕ) → j < i → get_or nodes j 0 ≡ x → ⊥
unfolding seen elem
new_before nodes x zero e j h = absurd (omega arith)
new_before nodes x (suc i) e j h =
    let o = outside_cons x (get_or nodes i 0) (seen nodes i) e in
    ⊎_elim (λ q p. o.0 (sym p ∙ ap (λ (k : ℕ). get_or nodes k 0) q)) (λ l. new_before nodes x i o.1 j l) (eq-or-lt_of_le {n = j} {m = i} (omega arith))

-- ---- the check at one node
module _ (g : Graph) (sn : List ℕ) (v t x : ℕ) (p : List ℕ) (i : ℕ) where
  goes_on : linked g v x ≡ true → elem x sn ≡ false → fault_after g sn v t (x ∷ p) i ≡ fault_after g (x ∷ sn) x t p (suc i)
  unfolding fault_after
  goes_on a u = rw (a, u)

  stops : (linked g v x ≡ true → elem x sn ≡ false → ⊥) → fault_after g sn v t (x ∷ p) i ≡ some i
  unfolding fault_after
  stops n = ⊎_elim (λ c. let k = and_both (linked g v x) (not (elem x sn)) c in absurd (n k.0 (not-true _ k.1))) (λ c. rw c) (split (linked g v x && not (elem x sn)))

-- ---- the head of an arc is a node
pub head_node : {n : ℕ} {ts hs ws : List ℕ} → Arcs n ts hs ws → {i y : ℕ} → (i < length hs) × (get_or hs i 0 ≡ y) → y ≤ n
head_node arcs {i} k = omega (arith, k.1, arcs.head_to i (omega (arith, k.0, arcs.heads_long)))

-- ---- where each node to position j goes on
record Passed (n : ℕ) (g : Graph) (nodes : List ℕ) (j : ℕ) : Type 0 where
  -- the check comes to that of what follows position j
  pub same : (t : ℕ) → fault_after g (get_or nodes 0 0 ∷ []) (get_or nodes 0 0) t (drop 1 nodes) 1 ≡ fault_after g (seen nodes (suc j)) (get_or nodes j 0) t (drop (suc j) nodes) (suc j)
  pub distinct : Loopless (seen nodes (suc j))
  pub nodes_of : (x : ℕ) → x ∈ seen nodes (suc j) → Node n x

module _ {n : ℕ} {ts hs ws : List ℕ} (arcs : Arcs n ts hs ws) (nodes : List ℕ) where
  -- what goes on, in the graph of the arrays
  goes_on_at : (j : ℕ) → GoesOn ts hs nodes (suc j) → (linked (graph ts hs ws) (get_or nodes j 0) (get_or nodes (suc j) 0) ≡ true) × (elem (get_or nodes (suc j) 0) (seen nodes (suc j)) ≡ false)
  goes_on_at j o =
      let e : suc j - 1 ≡ j = omega arith in
      (at_linked arcs (rw e at o.arc.1), unseen_before nodes (get_or nodes (suc j) 0) (suc j) o.new)

  at_goes_on : (j : ℕ) → linked (graph ts hs ws) (get_or nodes j 0) (get_or nodes (suc j) 0) ≡ true → elem (get_or nodes (suc j) 0) (seen nodes (suc j)) ≡ false → GoesOn ts hs nodes (suc j)
  at_goes_on j a u =
      let e : suc j - 1 ≡ j = omega arith in
      record { arc = rw e (linked_at arcs _ _ a); new = new_before nodes (get_or nodes (suc j) 0) (suc j) u }

  module _ (first : Node n (get_or nodes 0 0)) where
    passed : (j : ℕ) → j < length nodes → ((i : ℕ) → 1 ≤ i → i ≤ j → GoesOn ts hs nodes i) → Passed n (graph ts hs ws) nodes j
    unfolding seen elem
    passed zero h o = record { same = λ t. refl; distinct = fresh refl empty; nodes_of = λ x m. ⊎_elim (λ e. rw e first) (λ k. elim k [ ]) (Memᴰ.cases_cons m) }
    passed (suc j) h o =
        let before = passed j (omega arith) (λ i lo hi. o i lo (omega arith)) in
        let k = goes_on_at j (o (suc j) (omega arith) (omega arith)) in
        let arc = linked_at arcs _ _ k.0 in
        record {
          same = λ t. before.same t ∙ rw (drop-cons nodes (suc j) 0 h) (goes_on (graph ts hs ws) (seen nodes (suc j)) (get_or nodes j 0) t (get_or nodes (suc j) 0) (drop (suc (suc j)) nodes) (suc j) k.0 k.1);
          distinct = fresh k.1 before.distinct;
          nodes_of = λ x m. ⊎_elim (λ e. let q : x ≡ get_or hs arc.0 0 = e ∙ sym arc.1.head_is in rw q (record { from = arcs.head_from arc.0 arc.1.below; upto = arcs.head_to arc.0 arc.1.below })) (before.nodes_of x) (Memᴰ.cases_cons m);
        }

-- ---- row 14
-- it does not apply, so there is no place
pub list_sound : (o : Option ℕ) → sound ≡ list_row o → o ≡ none
unfolding list_row
list_sound none e = refl
list_sound (some place) e = let z : ◌≡◌ {A = ℕ} 0 1 = cc in absurd (omega arith)

module _ (g : Graph) (s t : ℕ) (nodes : List ℕ) where
  pub no_nodes : length nodes ≡ 0 → fault g s t nodes ≡ some 0
  unfolding fault
  no_nodes e = by_list nodes e
    where
      by_list : (l : List ℕ) → length l ≡ 0 → fault g s t l ≡ some 0
      by_list [] e = refl
      by_list (x ∷ l) e = absurd (omega arith)

  pub wrong_first : (get_or nodes 0 0 ≡ s → ⊥) → fault g s t nodes ≡ some 0
  unfolding fault
  wrong_first n = by_list nodes n
    where
      by_list : (l : List ℕ) → (get_or l 0 0 ≡ s → ⊥) → fault g s t l ≡ some 0
      by_list [] n = refl
      by_list (x ∷ l) n = rw (ne_eqb x s n)

  right_first : 1 ≤ length nodes → get_or nodes 0 0 ≡ s → fault g s t nodes ≡ fault_after g (get_or nodes 0 0 ∷ []) (get_or nodes 0 0) t (drop 1 nodes) 1
  unfolding fault
  right_first h e = by_list nodes h e
    where
      by_list : (l : List ℕ) → 1 ≤ length l → get_or l 0 0 ≡ s → fault g s t l ≡ fault_after g (get_or l 0 0 ∷ []) (get_or l 0 0) t (drop 1 l) 1
      by_list [] h e = absurd (omega arith)
      by_list (x ∷ l) h e = rw (eq-eqb x s e, e)

-- of a list that begins with the start and has its first error at a place
module _ {n s place : ℕ} {ts hs ws nodes : List ℕ} (arcs : Arcs n ts hs ws) (node : Node n s) (begins : get_or nodes 0 0 ≡ s) (error : FirstError ts hs nodes place) where
  j : ℕ
  j = place - 1

  place_is : suc j ≡ place
  unfolding j
  place_is = omega (arith, error.after_first)

  to_place : Passed n (graph ts hs ws) nodes j
  to_place = passed arcs nodes (rw begins node) j (omega (arith, place_is, error.upto)) (λ i lo hi. error.right_before i (omega (arith, place_is)) lo)

  pub place_to : place ≤ n
  place_to = omega (arith, place_is, length_seen nodes (suc j), distinct_le n to_place.distinct to_place.nodes_of)

  comes_to : (t : ℕ) → fault (graph ts hs ws) s t nodes ≡ fault_after (graph ts hs ws) (seen nodes (suc j)) (get_or nodes j 0) t (drop (suc j) nodes) (suc j)
  comes_to t = right_first (graph ts hs ws) s t nodes (omega (arith, error.after_first, error.upto)) begins ∙ to_place.same t

  pub error_found : (t : ℕ) → place < length nodes → fault (graph ts hs ws) s t nodes ≡ some place
  error_found t h = comes_to t ∙ rw (drop-cons nodes (suc j) 0 (rw place_is h)) (stops _ _ _ t _ _ (suc j) (λ a u. error.wrong_here h (rw (← place_is) (at_goes_on arcs nodes j a u)))) ∙ ap some place_is

  module _ (t : ℕ) (h : length nodes ≤ place) where
    at_end : fault (graph ts hs ws) s t nodes ≡ cond (eqb (get_or nodes j 0) t) none (some place)
    unfolding fault_after
    at_end = comes_to t ∙ rw (drop_of_length-le nodes {i = suc j} (omega (arith, place_is)), place_is)

    pub wrong_last : (get_or nodes (place - 1) 0 ≡ t → ⊥) → fault (graph ts hs ws) s t nodes ≡ some place
    unfolding j
    wrong_last n = at_end ∙ rw (ne_eqb _ t n)

    pub right_last : get_or nodes (place - 1) 0 ≡ t → fault (graph ts hs ws) s t nodes ≡ none
    unfolding j
    right_last e = at_end ∙ rw (eq-eqb _ t e)
