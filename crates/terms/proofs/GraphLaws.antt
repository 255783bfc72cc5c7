-- Arcs of a graph as its members, and the paths of a graph that is a part of another. Assumes nothing.
use Prim.Native.Nat.{ℕ, ◌+◌}
use mathlib.Core.Path.{◌≡◌, refl, sym, ◌∙◌, ap, ap₂, subst, subst₂}
use mathlib.Core.Bool.{true, false, ◌&&◌}
use mathlib.Core.Logic.{⊎_elim}
use mathlib.Core.List.Memᴰ
use mathlib.Core.List.{List, [], ◌∷◌, map, tail}
use lib.Dec.{eqb}
use borrow.Author.Tests.{eqb-true, eq-eqb}
use Rattle.terms.specs.Lists.{◌∈◌, keep}
use Rattle.terms.specs.Network.{Arc, Graph, heads, linked, weight}
use Rattle.terms.specs.Paths.{Route, ByArcs, single, along, Path, cost_from, cost}
use Rattle.terms.proofs.ListLaws.{split, and_both, elem_mem, mem_elem, mem_keep, keep_mem}

-- ---- there is an arc from a to b if one of the members is it
pub linked_arc : (g : Graph) (a b : ℕ) → linked g a b ≡ true → (x : Arc) × (x ∈ g) × (x.tail ≡ a) × (x.head ≡ b)
unfolding linked heads
linked_arc g a b e =
    let o = Memᴰ.of_map (λ (x : Arc). x.head) (keep (λ x. eqb x.tail a) g) (elem_mem b (map (λ x. x.head) (keep (λ x. eqb x.tail a) g)) e) in
    let k = keep_mem (λ (x : Arc). eqb x.tail a) g o.1 in
    (o.0, k.0, eqb-true o.0.tail a k.1, o.2)

pub arc_linked : {x : Arc} {g : Graph} → x ∈ g → linked g x.tail x.head ≡ true
unfolding linked heads
arc_linked {x} m = mem_elem (Memᴰ.map (λ (y : Arc). y.head) (mem_keep (λ (y : Arc). eqb y.tail x.tail) m (eq-eqb x.tail x.tail refl)))

-- an arc from a to b whose cost is the one that the graph gives
pub record Carried (g : Graph) (a b : ℕ) : Type 0 where
  pub arc : Arc
  pub in_graph : arc ∈ g
  pub tail_is : arc.tail ≡ a
  pub head_is : arc.head ≡ b
  pub weight_is : weight g a b ≡ arc.weight

carried_by : {y : Arc} {g : Graph} → y ∈ g → Carried g y.tail y.head
unfolding weight
carried_by {y} (Memᴰ.head {x} e) =
    let e' = sym (ap (λ z. z.tail) e) in
    let e'' = sym (ap (λ z. z.head) e) in
    record { arc = x; in_graph = Memᴰ.head refl; tail_is = e'; head_is = e''; weight_is = rw (eq-eqb x.tail y.tail e', eq-eqb x.head y.head e'') }
carried_by {y} (Memᴰ.tail {x} {xs = g} m) = ⊎_elim here (λ e. there e (carried_by m)) (split (eqb x.tail y.tail && eqb x.head y.head))
  where
    here : (eqb x.tail y.tail && eqb x.head y.head) ≡ true → Carried (x ∷ g) y.tail y.head
    here e =
        let k = and_both (eqb x.tail y.tail) (eqb x.head y.head) e in
        record { arc = x; in_graph = Memᴰ.head refl; tail_is = eqb-true x.tail y.tail k.0; head_is = eqb-true x.head y.head k.1; weight_is = rw e }

    there : (eqb x.tail y.tail && eqb x.head y.head) ≡ false → Carried g y.tail y.head → Carried (x ∷ g) y.tail y.head
    there e r = record { arc = r.arc; in_graph = Memᴰ.tail r.in_graph; tail_is = r.tail_is; head_is = r.head_is; weight_is = rw e r.weight_is }

pub carried : (g : Graph) (a b : ℕ) → linked g a b ≡ true → Carried g a b
carried g a b e = let k = linked_arc g a b e in subst₂ (Carried g) k.2 k.3 (carried_by k.1)

-- between two nodes there is at most one arc each way
pub record Simple (g : Graph) : Type 0 where
  pub same : (x y : Arc) → x ∈ g → y ∈ g → x.tail ≡ y.tail → x.head ≡ y.head → x ≡ y

-- ---- two nodes of a list, one right after the other
pub data Next (a b : ℕ) : Route → Type 0 where
  here : {v h : ℕ} {p : List ℕ} → v ≡ a → h ≡ b → Next a b (v ∷ h ∷ p)
  later : {v : ℕ} {p : List ℕ} → Next a b p → Next a b (v ∷ p)

-- a list goes by arcs if there is one between each such two
pub step_linked : {g : Graph} {a b : ℕ} {p : Route} → ByArcs g p → Next a b p → linked g a b ≡ true
step_linked single (later n) = elim n [ ]
step_linked {g} (along l r) (here e e') = ap₂ (linked g) (sym e) (sym e') ∙ l
step_linked (along l r) (later n) = step_linked r n

pub steps_by_arcs : (g : Graph) (v : ℕ) (p : List ℕ) → ((a b : ℕ) → Next a b (v ∷ p) → linked g a b ≡ true) → ByArcs g (v ∷ p)
steps_by_arcs g v [] f = single
steps_by_arcs g v (h ∷ p) f = along (f v h (here refl refl)) (steps_by_arcs g h p (λ a b n. f a b (later n)))

-- the sum over the arcs depends on their costs only
same_sum : (g h : Graph) (v : ℕ) (p : List ℕ) → ((a b : ℕ) → Next a b (v ∷ p) → weight g a b ≡ weight h a b) → cost_from g v p ≡ cost_from h v p
unfolding cost_from
same_sum g h v [] f = refl
same_sum g h v (x ∷ p) f = ap₂ (λ y z. y + z) (f v x (here refl refl)) (same_sum g h x p (λ a b n. f a b (later n)))

pub same_cost : (g h : Graph) (p : Route) → ((a b : ℕ) → Next a b p → weight g a b ≡ weight h a b) → cost g p ≡ cost h p
unfolding cost
same_cost g h [] f = refl
same_cost g h (v ∷ p) f = same_sum g h v p f

-- a path whose steps have arcs in g is a path of g
pub path_by : (g : Graph) {h : Graph} {s t : ℕ} {p : Route} → Path h s t p → ((a b : ℕ) → Next a b p → linked g a b ≡ true) → Path g s t p
path_by g {s} {p} r f =
    record {
      from_start = r.from_start;
      to_goal = r.to_goal;
      by_arcs = subst (ByArcs g) (sym r.from_start) (steps_by_arcs g s (tail p) (λ a b n. f a b (subst (Next a b) (sym r.from_start) n)));
      loopless = r.loopless;
    }

-- ---- a part of a graph: each of its arcs is one of the graph
pub record Part (g h : Graph) : Type 0 where
  pub arcs_of : (x : Arc) → x ∈ g → x ∈ h

module _ {g h : Graph} (part : Part g h) where
  pub part_linked : (a b : ℕ) → linked g a b ≡ true → linked h a b ≡ true
  part_linked a b e = let k = linked_arc g a b e in ap₂ (linked h) (sym k.2) (sym k.3) ∙ arc_linked (part.arcs_of k.0 k.1)

  pub part_weight : Simple h → (a b : ℕ) → linked g a b ≡ true → weight g a b ≡ weight h a b
  part_weight only a b e =
      let x = carried g a b e in
      let y = carried h a b (part_linked a b e) in
      x.weight_is ∙ ap (λ z. z.weight) (only.same x.arc y.arc (part.arcs_of x.arc x.in_graph) y.in_graph (x.tail_is ∙ sym y.tail_is) (x.head_is ∙ sym y.head_is)) ∙ sym y.weight_is

  -- its paths are paths of the graph, and cost the same there
  pub part_path : {s t : ℕ} {p : Route} → Path g s t p → Path h s t p
  part_path r = path_by h r (λ a b n. part_linked a b (step_linked r.by_arcs n))

  pub part_cost : Simple h → {p : Route} → ByArcs g p → cost g p ≡ cost h p
  part_cost only {p} r = same_cost g h p (λ a b n. part_weight only a b (step_linked r n))
