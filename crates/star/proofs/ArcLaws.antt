-- The graph of three arrays: its arcs are the indices, its weights those of the third array, and its paths do not cost much. Assumes nothing.
use Prim.Native.Nat.{ℕ, zero, suc, ◌+◌, ◌*◌, ◌≤◌, ◌<◌}
use native.Mathlib.Omega.{arith}
use native.Mathlib.Nat.{mul-suc, mul-le-mul_left}
use mathlib.Core.Path.{◌≡◌, refl, sym, ◌∙◌}
use mathlib.Core.Bool.{true, false, ◌&&◌, cond}
use mathlib.Core.Logic.{◌⊎◌, inl, inr, ⊎_elim}
use mathlib.Core.List.{List, [], ◌∷◌, map, tail}
use lib.Dec.{eqb}
use lib.ListN.{length, get_or}
use borrow.Author.Tests.{eqb-true, eq-eqb}
use Rattle.terms.specs.Lists.{elem, keep}
use Rattle.terms.specs.Network.{Arc, Graph, heads, linked, weight}
use Rattle.terms.specs.Paths.{Route, Path, ByArcs, along, cost, cost_from}
use Rattle.terms.proofs.ListLaws.{split, clash, or_cases, or_right, and_both, by_cond, of_cond}
use Rattle.terms.proofs.PathLaws.{Within, of_path, at_most_nodes}
use Rattle.star.specs.Arcs.{graph, Arcs, At}
use Rattle.star.specs.Chains.{Chainable}

-- ---- one arc more
module _ (x : Arc) (g : Graph) (a b : ℕ) where
  linked_cases : linked (x ∷ g) a b ≡ true → ((x.tail ≡ a) × (x.head ≡ b)) ⊎ (linked g a b ≡ true)
  unfolding linked heads keep elem
  linked_cases e = ⊎_elim (λ c. ⊎_elim (λ d. inl (eqb-true x.tail a c.0, sym (eqb-true b x.head d))) inr (or_cases c.1)) (λ c. inr c.1) (of_cond (λ k. elem b (map (λ (y : Arc). y.head) k) ≡ true) (eqb x.tail a) e)

  linked_here : x.tail ≡ a → x.head ≡ b → linked (x ∷ g) a b ≡ true
  unfolding linked heads keep elem
  linked_here p q = rw (eq-eqb x.tail a p, eq-eqb b x.head (sym q))

  linked_there : linked g a b ≡ true → linked (x ∷ g) a b ≡ true
  unfolding linked heads keep elem
  linked_there e = by_cond (λ k. elem b (map (λ (y : Arc). y.head) k) ≡ true) (eqb x.tail a) (λ _. or_right (eqb b x.head) e) (λ _. e)

-- ---- the arc at an index
pub at_index : (ts hs : List ℕ) (i : ℕ) → i < length ts → At ts hs (get_or ts i 0) (get_or hs i 0) i
at_index ts hs i b = record { below = b; tail_is = refl; head_is = refl }

at_suc : {t h a b i : ℕ} {ts hs : List ℕ} → At ts hs a b i → At (t ∷ ts) (h ∷ hs) a b (suc i)
at_suc p = record { below = omega (arith, p.below); tail_is = p.tail_is; head_is = p.head_is }

none_linked : (a b : ℕ) → linked [] a b ≡ false
unfolding linked heads keep elem
none_linked a b = refl

index_of : (ts hs ws : List ℕ) (a b : ℕ) → linked (graph ts hs ws) a b ≡ true → (i : ℕ) × At ts hs a b i
unfolding graph
index_of [] hs ws a b e = clash e (none_linked a b)
index_of (t ∷ ts) [] ws a b e = clash e (none_linked a b)
index_of (t ∷ ts) (h ∷ hs) [] a b e = clash e (none_linked a b)
index_of (t ∷ ts) (h ∷ hs) (w ∷ ws) a b e =
    ⊎_elim (λ p. (zero, record { below = omega arith; tail_is = p.0; head_is = p.1 })) (λ k. let r = index_of ts hs ws a b k in (suc r.0, at_suc r.1)) (linked_cases _ (graph ts hs ws) a b e)

linked_index : (ts hs ws : List ℕ) (a b i : ℕ) → length hs ≡ length ts → length ws ≡ length ts → At ts hs a b i → linked (graph ts hs ws) a b ≡ true
unfolding graph
linked_index [] hs ws a b i e e' p = absurd (omega (arith, p.below))
linked_index (t ∷ ts) [] ws a b i e e' p = absurd (omega arith)
linked_index (t ∷ ts) (h ∷ hs) [] a b i e e' p = absurd (omega arith)
linked_index (t ∷ ts) (h ∷ hs) (w ∷ ws) a b zero e e' p = linked_here _ (graph ts hs ws) a b p.tail_is p.head_is
linked_index (t ∷ ts) (h ∷ hs) (w ∷ ws) a b (suc i) e e' p =
    linked_there _ (graph ts hs ws) a b (linked_index ts hs ws a b i (omega arith) (omega arith) (record { below = omega (arith, p.below); tail_is = p.tail_is; head_is = p.head_is }))

-- no arc has a twin
abbrev Simple : List ℕ → List ℕ → Type 0
Simple ts hs = (i j : ℕ) → i < length ts → j < length ts → get_or ts i 0 ≡ get_or ts j 0 → get_or hs i 0 ≡ get_or hs j 0 → i ≡ j

weight_index : (ts hs ws : List ℕ) (i : ℕ) → length hs ≡ length ts → length ws ≡ length ts → Simple ts hs → i < length ts → weight (graph ts hs ws) (get_or ts i 0) (get_or hs i 0) ≡ get_or ws i 0
unfolding graph weight
weight_index [] hs ws i e e' s b = absurd (omega arith)
weight_index (t ∷ ts) [] ws i e e' s b = absurd (omega arith)
weight_index (t ∷ ts) (h ∷ hs) [] i e e' s b = absurd (omega arith)
weight_index (t ∷ ts) (h ∷ hs) (w ∷ ws) zero e e' s b = rw (eq-eqb t t refl, eq-eqb h h refl)
weight_index (t ∷ ts) (h ∷ hs) (w ∷ ws) (suc i) e e' s b =
    let later = weight_index ts hs ws i (omega arith) (omega arith) (λ j k b b' p q. let r = s (suc j) (suc k) (omega arith) (omega arith) p q in omega arith) (omega arith) in
    ⊎_elim twin (λ c. rw c later) (split (eqb t (get_or ts i 0) && eqb h (get_or hs i 0)))
  where
    twin : (eqb t (get_or ts i 0) && eqb h (get_or hs i 0)) ≡ true → cond (eqb t (get_or ts i 0) && eqb h (get_or hs i 0)) w (weight (graph ts hs ws) (get_or ts i 0) (get_or hs i 0)) ≡ get_or ws i 0
    twin c =
        let p = and_both (eqb t (get_or ts i 0)) (eqb h (get_or hs i 0)) c in
        let z = s 0 (suc i) (omega arith) b (eqb-true t (get_or ts i 0) p.0) (eqb-true h (get_or hs i 0) p.1) in
        absurd (omega arith)

-- ---- the graph of arrays that hold arcs
module _ {n : ℕ} {ts hs ws : List ℕ} (arcs : Arcs n ts hs ws) where
  -- its arcs are the indices
  pub linked_at : (a b : ℕ) → linked (graph ts hs ws) a b ≡ true → (i : ℕ) × At ts hs a b i
  linked_at a b e = index_of ts hs ws a b e

  pub at_linked : {a b i : ℕ} → At ts hs a b i → linked (graph ts hs ws) a b ≡ true
  at_linked {a} {b} {i} p = linked_index ts hs ws a b i arcs.heads_long arcs.weights_long p

  pub at_weight : {a b i : ℕ} → At ts hs a b i → weight (graph ts hs ws) a b ≡ get_or ws i 0
  at_weight {a} {b} {i} p = rw (← p.tail_is, ← p.head_is) (weight_index ts hs ws i arcs.heads_long arcs.weights_long arcs.simple p.below)

  -- which go between nodes
  pub graph_within : Within n (graph ts hs ws)
  graph_within a b e = let r = linked_at a b e in rw (← r.1.head_is) (arcs.head_from r.0 r.1.below, arcs.head_to r.0 r.1.below)

  pub tail_within : (a b : ℕ) → linked (graph ts hs ws) a b ≡ true → (1 ≤ a) × (a ≤ n)
  tail_within a b e = let r = linked_at a b e in rw (← r.1.tail_is) (arcs.tail_from r.0 r.1.below, arcs.tail_to r.0 r.1.below)

  -- they can be chained in arrays of the right lengths
  pub chainable_of : {first next : List ℕ} → length first ≡ n + 1 → length next ≡ length ts → Chainable hs first next
  chainable_of e e' = record { next_long = e' ∙ sym arcs.heads_long; head_in = λ i b. omega (arith, arcs.head_to i (omega (arith, arcs.heads_long))); few = omega (arith, arcs.heads_long, arcs.few) }

  -- ---- a path costs at most 199 times the heaviest arc
  module _ (w : ℕ) (light : (i : ℕ) → i < length ts → get_or ws i 0 ≤ w) where
    cost_from_le : (v : ℕ) (p : List ℕ) → ByArcs (graph ts hs ws) (v ∷ p) → cost_from (graph ts hs ws) v p ≤ w * length p
    unfolding cost_from
    cost_from_le v [] b = omega arith
    cost_from_le v (h ∷ p) (along a b) = let r = linked_at v h a in omega (arith, mul-suc w (length p), cost_from_le h p b, at_weight r.1, light r.0 r.1.below)

    cost_le_at : (v t : ℕ) (p : List ℕ) → Path (graph ts hs ws) v t (v ∷ p) → cost (graph ts hs ws) (v ∷ p) ≤ 199 * w
    unfolding cost cost_from
    cost_le_at v t [] r = omega arith
    cost_le_at v t (h ∷ p) r = by_arc r.by_arcs
      where
        by_arc : ByArcs (graph ts hs ws) (v ∷ h ∷ p) → cost_from (graph ts hs ws) v (h ∷ p) ≤ 199 * w
        by_arc (along a b) =
            let from = tail_within v h a in
            let few : length (h ∷ p) ≤ 199 = omega (arith, at_most_nodes graph_within from.0 from.1 (of_path r), arcs.few_nodes) in
            omega (arith, cost_from_le v (h ∷ p) (along a b), mul-le-mul_left w few)

    pub path_cost_le : {v t : ℕ} {p : Route} → Path (graph ts hs ws) v t p → cost (graph ts hs ws) p ≤ 199 * w
    path_cost_le {v} {t} {p} r = rw r.from_start (cost_le_at v t (tail p) (rw r.from_start at r))
