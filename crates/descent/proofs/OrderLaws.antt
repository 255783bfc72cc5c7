-- `walks` lists paths in node order, if the heads of each node rise, as they do in an admitted network. Assumes nothing.
use Prim.Native.Nat.{ℕ, zero, suc, ◌<◌}
use native.Mathlib.Omega.{arith}
use mathlib.Core.Path.{◌≡◌, refl, sym, ◌∙◌, ap}
use mathlib.Core.Bool.{Bool, true, not}
use mathlib.Core.Logic.{⊎_elim}
use mathlib.Core.List.Memᴰ
use mathlib.Core.List.{List, [], ◌∷◌, ◌++◌, tail, map, flat_map}
use lib.Dec.{ltb, eqb}
use borrow.Author.Tests.{eqb-true, ltb-true, lt-ltb}
use Rattle.terms.specs.Lists.{◌∈◌, elem, keep}
use Rattle.terms.specs.Network.{Arc, Graph, Net, Admitted, below, RisingFrom, no_more, next, heads, weight}
use Rattle.terms.specs.Paths.{Route, cost_from, cost, exits, walks, paths}
use Rattle.terms.specs.Ranking.{by_first, lex, before}
use Rattle.terms.proofs.ListLaws.{by_cond, keep_mem, flat_map_mem}
use Rattle.terms.proofs.PathLaws.{starts, walks_sound}
use Rattle.terms.proofs.RankingLaws.{by_first_true, by_first_lt, by_first_eq, by_first_trans, Rising, none_left, first}
use Rattle.descent.specs.Rule.{drawn}
use Rattle.descent.proofs.JointLaws.{everywhere, joint, exits_joint}

-- ---- node order is the ranking order of a graph without arcs, in which nothing costs anything: so `Rising []` is "in node order"
cost_free : (v : ℕ) (p : List ℕ) → cost_from [] v p ≡ 0
unfolding cost_from weight
cost_free v [] = refl
cost_free v (h ∷ p) = omega (arith, cost_free h p)

pub node_order : (p q : Route) → before [] p q ≡ lex p q
unfolding before cost
node_order [] [] = by_first_eq 0 0 (lex [] []) refl
node_order [] (y ∷ q) = by_first_eq 0 (cost_from [] y q) (lex [] (y ∷ q)) (sym (cost_free y q))
node_order (x ∷ p) [] = by_first_eq (cost_from [] x p) 0 (lex (x ∷ p) []) (cost_free x p)
node_order (x ∷ p) (y ∷ q) = by_first_eq (cost_from [] x p) (cost_from [] y q) (lex (x ∷ p) (y ∷ q)) (cost_free x p ∙ sym (cost_free y q))

-- ---- numbers that rise
pub data Climbs : List ℕ → Type 0 where
  at_end : Climbs []
  up : {x : ℕ} {l : List ℕ} → ((y : ℕ) → y ∈ l → x < y) → Climbs l → Climbs (x ∷ l)

keep_climbs : (f : ℕ → Bool) {l : List ℕ} → Climbs l → Climbs (keep f l)
unfolding keep
keep_climbs f at_end = at_end
keep_climbs f (up {x} {l} a c) = by_cond Climbs (f x) (λ _. up (λ y m. a y (keep_mem f l m).0) (keep_climbs f c)) (λ _. keep_climbs f c)

-- ---- the heads of a node rise: arcs rise by tail, then head
pub rising_below : {a b : ℕ × ℕ} {l : List (ℕ × ℕ)} → RisingFrom a l → b ∈ l → below a b ≡ true
unfolding below by_first
rising_below no_more m = elim m [ ]
rising_below {a} {b} (next {b = c} {l} h r) m = ⊎_elim (λ e. ap (below a) e ∙ h) (λ k. onto (rising_below r k)) (Memᴰ.cases_cons m)
  where
    onto : below c b ≡ true → below a b ≡ true
    onto k = by_first_trans a.0 c.0 b.0 (ltb a.1 c.1) (ltb c.1 b.1) (ltb a.1 b.1) (λ p q. lt-ltb a.1 b.1 (omega (arith, ltb-true a.1 c.1 p, ltb-true c.1 b.1 q))) h k

pub below_head : (a b : ℕ × ℕ) → a.0 ≡ b.0 → below a b ≡ true → a.1 < b.1
unfolding below by_first
below_head a b e h = ⊎_elim (λ l. absurd (omega arith)) (λ k. ltb-true a.1 b.1 k.1) (by_first_true a.0 b.0 (ltb a.1 b.1) h)

abbrev as_arc : ℕ × ℕ → Arc
as_arc a = record { tail = a.0; head = a.1; weight = 0 }

heads_climb : (v : ℕ) {a : ℕ × ℕ} {l : List (ℕ × ℕ)} → RisingFrom a l → Climbs (heads (map as_arc l) v)
unfolding heads keep
heads_climb v no_more = at_end
heads_climb v (next {b} {l} h r) = by_cond (λ (k : Graph). Climbs (map (λ x. x.head) k)) (eqb b.0 v) (λ e. up (above e) (heads_climb v r)) (λ _. heads_climb v r)
  where
    above : eqb b.0 v ≡ true → (y : ℕ) → y ∈ map (λ (x : Arc). x.head) (keep (λ x. eqb x.tail v) (map as_arc l)) → b.1 < y
    above e y m =
        let o = Memᴰ.of_map (λ (x : Arc). x.head) (keep (λ x. eqb x.tail v) (map as_arc l)) m in
        let k = keep_mem (λ (x : Arc). eqb x.tail v) (map as_arc l) o.1 in
        let c = Memᴰ.of_map as_arc l k.0 in
        let same : b.0 ≡ c.0.0 = eqb-true b.0 v e ∙ sym (ap (λ (x : Arc). x.tail) c.2 ∙ eqb-true o.0.tail v k.1) in
        omega (arith, below_head b c.0 same (rising_below r c.1), ap (λ (x : Arc). x.head) c.2, o.2)

exits_climb : {e : ℕ} (net : Net) → Admitted e net → (seen : List ℕ) (v : ℕ) → Climbs (exits (joint net) seen v)
unfolding exits drawn
exits_climb net ok seen v = rw (exits_joint net seen v) (keep_climbs (everywhere net v) (keep_climbs (λ h. not (elem h seen)) (heads_climb v ok.rising)))

-- ---- so the paths come in node order
rising_append : (g : Graph) {k l : List Route} → Rising g k → Rising g l → ((p q : Route) → p ∈ k → q ∈ l → before g p q ≡ true) → Rising g (k ++ l)
rising_append g none_left r h = r
rising_append g (first {p} {l = k} a r) u h =
    first (λ q m. ⊎_elim (a q) (h p q (Memᴰ.head refl)) (Memᴰ.append_cases k m)) (rising_append g r u (λ x q m o. h x q (Memᴰ.tail m) o))

-- a node put before each
before_cons : (v : ℕ) (p q : Route) → before [] p q ≡ true → before [] (v ∷ p) (v ∷ q) ≡ true
unfolding lex
before_cons v p q h = node_order (v ∷ p) (v ∷ q) ∙ by_first_eq v v (lex p q) refl ∙ sym (node_order p q) ∙ h

rising_cons : (v : ℕ) {l : List Route} → Rising [] l → Rising [] (map (λ p. v ∷ p) l)
rising_cons v none_left = none_left
rising_cons v (first {p} {l} a r) =
    first {p = v ∷ p} {l = map (λ q. v ∷ q) l} (λ q m. let o = Memᴰ.of_map (λ (x : Route). v ∷ x) l m in rw (← o.2) (before_cons v p o.0 (a o.0 o.1))) (rising_cons v r)

-- lists in node order, one for each of rising numbers, with which their routes begin
before_heads : (v x y : ℕ) {p q : Route} → x < y → p ≡ x ∷ tail p → q ≡ y ∷ tail q → before [] (v ∷ p) (v ∷ q) ≡ true
unfolding lex
before_heads v x y {p} {q} l d e = before_cons v p q (node_order p q ∙ rw (d, e) (by_first_lt x y (lex (tail p) (tail q)) l))

module _ (v : ℕ) (from : ℕ → List Route) (rise : (h : ℕ) → Rising [] (from h)) (begin : (h : ℕ) (p : Route) → p ∈ from h → p ≡ h ∷ tail p) where
  flat_rising : {l : List ℕ} → Climbs l → Rising [] (flat_map (λ h. map (λ p. v ∷ p) (from h)) l)
  unfolding flat_map
  flat_rising at_end = none_left
  flat_rising (up {x} {l} a c) = rising_append [] (rising_cons v (rise x)) (flat_rising c) apart
    where
      apart : (p q : Route) → p ∈ map (λ p. v ∷ p) (from x) → q ∈ flat_map (λ h. map (λ p. v ∷ p) (from h)) l → before [] p q ≡ true
      apart p q m o =
          let i = Memᴰ.of_map (λ (r : Route). v ∷ r) (from x) m in
          let j = flat_map_mem (λ h. map (λ p. v ∷ p) (from h)) l o in
          let k = Memᴰ.of_map (λ (r : Route). v ∷ r) (from j.0) j.2 in
          rw (← i.2, ← k.2) (before_heads v x j.0 (a j.0 j.1) (begin x i.0 i.1) (begin j.0 k.0 k.1))

pub walks_rising : (f : ℕ) (g : Graph) → ((seen : List ℕ) (v : ℕ) → Climbs (exits g seen v)) → (seen : List ℕ) (v t : ℕ) → Rising [] (walks f g seen v t)
unfolding walks
walks_rising zero g c seen v t = none_left
walks_rising (suc f) g c seen v t =
    by_cond (Rising []) (eqb v t) (λ _. first (λ q m. elim m [ ]) none_left)
    (λ _. flat_rising v (λ h. walks f g (v ∷ seen) h t) (λ h. walks_rising f g c (v ∷ seen) h t) (λ h p m. starts (walks_sound f m)) (c (v ∷ seen) v))

pub paths_rising : {e : ℕ} (net : Net) → Admitted e net → (s t : ℕ) → Rising [] (paths net.nodes (joint net) s t)
unfolding paths
paths_rising net ok s t = walks_rising net.nodes (joint net) (exits_climb net ok) [] s t
