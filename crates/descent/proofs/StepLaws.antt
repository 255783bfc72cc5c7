-- One step of the search: the partial route grows by a node and is as before afterwards, in the arrays and in the rule. Assumes nothing.
use Prim.Native.Nat.{ℕ, suc, ◌+◌, ◌-◌, ◌≤◌, ◌<◌}
use native.Mathlib.Omega.{arith}
use native.Mathlib.Numerals.{add-one}
use mathlib.Core.Path.{◌≡◌, refl, sym, ◌∙◌, ap}
use mathlib.Core.Bool.{Bool, true, false, not}
use mathlib.Core.Logic.{⊎_elim}
use mathlib.Core.List.Memᴰ
use Rattle.std.specs.Prelude.{Result}
use mathlib.Core.List.{List, [], ◌∷◌, reverse, reverse-reverse, reverse-append}
use lib.ListN.{length, get_or, set, take, drop, length-set}
use lib.Seq.{take-suc-set, take-set-le, take-take, set-set, set-get_or, drop-cons}
use borrow.Author.Tests.{le-leb, lt-leb, eq-eqb, ne_eqb}
use Rattle.terms.specs.Lists.{◌∈◌, elem, keep}
use Rattle.descent.specs.Rule.{each}
use Rattle.terms.specs.Network.{Graph, Net, weight, column, heads}
use Rattle.descent.specs.Rule.{drawn}
use Rattle.terms.specs.Paths.{cost_from, cost, exits}
use Rattle.terms.specs.Regret.{figure}
use Rattle.descent.specs.Rule.{State, complete, one_more, dropped, laid}
use Rattle.descent.specs.Limit.{going, cut, then_on, try_within, descend_within}
use Rattle.descent.specs.Limit as rule
use Rattle.terms.proofs.ListLaws.{split, clash, elem_mem, outside_cons}
use Rattle.terms.proofs.PathLaws.{unseen, unseen_lt}
use Rattle.descent.proofs.DescentLaws.{cost_laid}
use Rattle.descent.proofs.LimitLaws.{cut_stays}
use Rattle.descent.specs.Rows.{at_row, Low, Lengthened}
use Rattle.descent.specs.Depth.{trail, Flagged, Begun, Kept, Matches, Ends, Given, at_arc, sweep}
use Rattle.descent.specs.declared.depth.Held.{Held}
use Rattle.descent.specs.declared.depth.Cut.{Cut}
use Rattle.star.proofs.Stores.{flag_each}

-- ---- the partial route
-- as the rule lays it out
pub route_is : (route : List ℕ) (d : ℕ) {v : ℕ} {seen : List ℕ} → trail route d ≡ v ∷ seen → take d route ≡ laid seen v
unfolding laid
route_is route d e = sym (reverse-reverse (take d route)) ∙ ap reverse e

-- with one node more
pub trail_more : (route : List ℕ) (d h : ℕ) → d < length route → trail (set route d h) (d + 1) ≡ h ∷ trail route d
trail_more route d h l = ap reverse (ap (λ (k : ℕ). take k (set route d h)) (add-one d) ∙ take-suc-set route d h l) ∙ reverse-append (take d route) (h ∷ [])

-- ---- flags
-- a flag says whether the node is on the route
pub flag_on : {flags : List Bool} {q : List ℕ} (x : ℕ) → Flagged flags q → get_or flags x false ≡ true → elem x q ≡ true
flag_on {q} x f n = ⊎_elim (λ e. e) (λ e. clash n (f.outside x e)) (split (elem x q))

pub flag_off : {flags : List Bool} {q : List ℕ} (x : ℕ) → Flagged flags q → get_or flags x false ≡ false → elem x q ≡ false
flag_off {q} x f e = ⊎_elim (λ k. clash (f.inside x (elem_mem x q k)) e) (λ k. k) (split (elem x q))

pub flag_more : {flags : List Bool} {q : List ℕ} (y : ℕ) → Flagged flags q → y < length flags → Flagged (set flags y true) (y ∷ q)
flag_more {flags} {q} y f h = record {
  inside = λ x m. flag_each (λ x a. x ∈ y ∷ q → a ≡ true) flags y true h (λ _. refl) (λ x n k. ⊎_elim (λ e. absurd (n e)) (f.inside x) (Memᴰ.cases_cons k)) x m;
  outside = λ x o. flag_each (λ x a. elem x (y ∷ q) ≡ false → a ≡ false) flags y true h (λ k. absurd ((outside_cons y y q k).0 refl)) (λ x n k. f.outside x (outside_cons x y q k).1) x o;
}

-- set and cleared again
pub flag_back : (flags : List Bool) (y : ℕ) → get_or flags y false ≡ false → set (set flags y true) y false ≡ flags
flag_back flags y e = set-set flags y true false ∙ ap (set flags y) (sym e) ∙ set-get_or flags y false

-- ---- what keeps the next step inside
module _ {places : ℕ} {route : List ℕ} {used : List Bool} {path sums : List ℕ} {d : ℕ} (h : ℕ) (b : Begun places route used path sums d) (lo : 1 ≤ h) (hi : h < places) (free : get_or used h false ≡ false) where
  -- there is a node that is not on the route, so there is room for it
  less : length (unseen (places - 1) (h ∷ trail route d)) < length (unseen (places - 1) (trail route d))
  less = unseen_lt (places - 1) (trail route d) h lo (omega arith) (flag_off h b.flagged free)

  pub more_room : d + 1 < places
  more_room = omega (arith, less, b.room)

  pub begun_more : {sums' : List ℕ} → Low (d + 1) sums' → Begun places (set route d h) (set used h true) path sums' (d + 1)
  begun_more low =
      let e = trail_more route d h (omega (arith, more_room, b.route_long)) in
      record {
        some = omega arith;
        room = rw e (omega (arith, less, b.room));
        route_long = simp length-set b.route_long;
        path_long = b.path_long;
        used_long = simp length-set b.used_long;
        flagged = rw e (flag_more h b.flagged (omega (arith, b.used_long)));
        sums_low = low;
      }

  -- and afterwards all is as before
  pub kept_back : {route' : List ℕ} {used' : List Bool} → Kept (d + 1) (set route d h) (set used h true) route' used' → Kept d route used route' (set used' h false)
  kept_back {route'} k = record {
    flags = ap (λ (l : List Bool). set l h false) k.flags ∙ flag_back used h free;
    nodes = sym (take-take d (d + 1) route' (omega arith)) ∙ ap (take d) k.nodes ∙ take-take d (d + 1) (set route d h) (omega arith) ∙ take-set-le d route d h (omega arith);
  }

-- what the route with h costs
laid_more : (g : Graph) (seen : List ℕ) (v h : ℕ) → cost g (laid (v ∷ seen) h) ≡ cost g (laid seen v) + weight g v h
unfolding laid cost_from cost
laid_more g seen v h = omega (arith, cost_laid g seen v (h ∷ []))

-- ---- one arc more, and the state at the next node
abbrev pub counted : Held → Held
counted h = record { length = h.length; figure = h.figure; tried = h.tried + 1 }

pub matches_counted : {path : List ℕ} {h : Held} {z : State} → Matches path h z → Matches path (counted h) (one_more z)
unfolding one_more
matches_counted m = record { tried_is = add-one _ ∙ ap suc m.tried_is; found_is = m.found_is }

module _ {net : Net} {s t : ℕ} {seen : List ℕ} {z : State} {hs outs costs labels bests : List ℕ} {places goal v d : ℕ} {route path sums : List ℕ} {held : Held} (h : ℕ)
    (given : Given net s t seen z hs outs costs labels bests places goal v d route path sums held) where
  pub given_more : {sums' : List ℕ} (i : ℕ) → d < length route → Lengthened (length hs) i (length bests) costs sums sums' → ((u : ℕ) → u < length bests → weight (column net (suc u)) v h ≡ at_row (length hs) costs u i)
      → Given net s t (v ∷ seen) (one_more z) hs outs costs labels bests places goal h (d + 1) (set route d h) path sums' (counted held)
  given_more {sums'} i room longer weighs = record {
    tables = given.tables;
    goal_is = given.goal_is;
    nodes_are = trail_more route d h room ∙ ap (λ (l : List ℕ). h ∷ l) given.nodes_are;
    sums_are = sums_are;
    matches = matches_counted given.matches;
  }
    where
      sums_are : (u : ℕ) → u < length bests → get_or sums' u 0 ≡ cost (column net (suc u)) (laid (v ∷ seen) h)
      sums_are u l = omega (arith, longer.longer u l, given.sums_are u l, weighs u l, laid_more (column net (suc u)) seen v h)

-- ---- the rule at one arc
module _ (limit f : ℕ) (net : Net) (s t : ℕ) (seen : List ℕ) (v h : ℕ) (z : State) where
  pub at_used : elem h (v ∷ seen) ≡ true → at_arc limit f net s t seen v h z ≡ going z
  unfolding at_arc
  at_used e = rw e refl

  pub at_full : elem h (v ∷ seen) ≡ false → limit ≤ z.tried → at_arc limit f net s t seen v h z ≡ cut
  unfolding at_arc try_within
  at_full e l = rw (e, le-leb limit z.tried l) refl

  pub at_dropped : elem h (v ∷ seen) ≡ false → z.tried < limit → dropped net s t (laid seen v) v h z.found ≡ true → at_arc limit f net s t seen v h z ≡ going (one_more z)
  unfolding at_arc try_within
  at_dropped e l d = rw (e, lt-leb limit z.tried l, d) refl

  pub at_taken : elem h (v ∷ seen) ≡ false → z.tried < limit → dropped net s t (laid seen v) v h z.found ≡ false → at_arc limit f net s t seen v h z ≡ descend_within limit f net s t (v ∷ seen) h (one_more z)
  unfolding at_arc try_within
  at_taken e l d = rw (e, lt-leb limit z.tried l, d) refl

-- ---- and at all arcs out of a node
module _ (limit f : ℕ) (net : Net) (s t : ℕ) (seen : List ℕ) (v : ℕ) where
  pub sweep_step : (h : ℕ) (l : List ℕ) (z : State) → sweep limit f net s t seen v (h ∷ l) (going z) ≡ sweep limit f net s t seen v l (at_arc limit f net s t seen v h z)
  unfolding sweep at_arc keep each then_on
  sweep_step h l z = ⊎_elim (λ e. rw e refl) (λ e. rw e refl) (split (elem h (v ∷ seen)))

  pub sweep_cut : (l : List ℕ) → sweep limit f net s t seen v l cut ≡ cut
  unfolding sweep
  sweep_cut l = cut_stays (λ h. try_within limit net s t seen v h (descend_within limit f net s t (v ∷ seen) h)) (keep (λ h. not (elem h (v ∷ seen))) l)

  pub descend_goal : (z : State) → v ≡ t → descend_within limit (suc f) net s t seen v z ≡ going (complete (figure net s t) (laid seen v) z)
  unfolding descend_within
  descend_goal z e = rw (eq-eqb v t e) refl

  pub descend_sweep : (z : State) → (v ≡ t → ⊥) → descend_within limit (suc f) net s t seen v z ≡ sweep limit f net s t seen v (heads (drawn net) v) (going z)
  unfolding descend_within sweep exits
  descend_sweep z n = rw (ne_eqb v t n) refl

-- the heads from arc i to below arc `to`
pub rest_step : (hs : List ℕ) (i to : ℕ) → i < to → to ≤ length hs → take (to - i) (drop i hs) ≡ get_or hs i 0 ∷ take (to - (i + 1)) (drop (i + 1) hs)
rest_step hs i to l h =
    let e : to - i ≡ suc (to - (i + 1)) = omega arith in
    rw (e, add-one i, drop-cons hs i 0 (omega arith)) refl

pub rest_none : (hs : List ℕ) (i to : ℕ) → to ≤ i → take (to - i) (drop i hs) ≡ []
rest_none hs i to l = let e : to - i ≡ 0 = omega arith in rw e refl

-- ---- the end of a run
pub ends_as : {path : List ℕ} {a b : rule.Run} {r : Result Held Cut} → a ≡ b → Ends path b r → Ends path a r
ends_as {path} {r} e x = rw e x
