-- Where the arcs out of each node begin: how that is found, what it says, and an arc looked for there. Assumes nothing.
use Prim.Native.Nat.{ℕ, ◌+◌, ◌≤◌, ◌<◌}
use native.Mathlib.Omega.{arith}
use native.Mathlib.Nat.{eq-or-lt_of_le}
use mathlib.Core.Path.{◌≡◌, refl, sym, ◌∙◌}
use mathlib.Core.Logic.{⊎_elim}
use mathlib.Core.List.{List}
use Rattle.std.specs.Prelude.{Option, Some, None}
use lib.ListN.{length, get_or}
use Rattle.terms.proofs.ListLaws.{le_or_lt}
use Rattle.star.specs.Arcs.{Arcs, At}
use Rattle.star.specs.Star.{Star, Cut}
use Rattle.star.specs.Search.{Rising, Finds}
use Rattle.star.specs.Found.{ArcFound, here, missing}
use Rattle.star.proofs.SearchLaws.{below_of}

-- ---- the tails before index i are below v
pub record Before (ts : List ℕ) (i v : ℕ) : Type 0 where
  pub within : i ≤ length ts
  pub below : (j : ℕ) → j < i → get_or ts j 0 < v

-- and the cuts of the nodes below v are found
pub record Cutting (ts : List ℕ) (i v : ℕ) (first : List ℕ) : Type 0 where
  pub before : Before ts i v
  pub cuts : (u : ℕ) → u < v → Cut ts u (get_or first u 0)

-- ---- with the cuts, arcs that rise by tail, then head, have their star
pub star_of : {n : ℕ} {ts hs ws first : List ℕ} → Arcs n ts hs ws → ((i j : ℕ) → i < j → j < length ts → get_or ts i 0 ≡ get_or ts j 0 → get_or hs i 0 < get_or hs j 0) → length first ≡ n + 2
    → ((v : ℕ) → v < length first → Cut ts v (get_or first v 0)) → Star n ts hs first
star_of {n} {ts} {hs} {first = first} arcs rising long cuts = record {
  long = long;
  within = λ v h. (cut v h).within;
  ordered = λ v h. ⊎_elim (λ k. k) (λ k. absurd (omega (arith, (cut v (omega arith)).before (get_or first (v + 1) 0) k, (cut (v + 1) (omega arith)).from (get_or first (v + 1) 0) (omega arith) (omega (arith, (cut v (omega arith)).within))))) (le_or_lt (get_or first v 0) (get_or first (v + 1) 0));
  out_of = λ v i h lo hi. omega (arith, (cut v (omega arith)).from i lo (omega (arith, (cut (v + 1) (omega arith)).within)), (cut (v + 1) (omega arith)).before i hi);
  out = λ v i h m e. (
    ⊎_elim (λ k. k) (λ k. absurd (omega (arith, (cut v (omega arith)).before i k))) (le_or_lt (get_or first v 0) i),
    ⊎_elim (λ k. absurd (omega (arith, (cut (v + 1) (omega arith)).from i k m))) (λ k. k) (le_or_lt (get_or first (v + 1) 0) i),
  );
  rising = rising;
}
  where
    cut : (v : ℕ) → v ≤ n + 1 → Cut ts v (get_or first v 0)
    cut v h = cuts v (omega arith)

-- what holds from a to below i, and at i, holds to below i + 1
pub up_to : (P : ℕ → Type 0) (a i : ℕ) → ((j : ℕ) → a ≤ j → j < i → P j) → P i → (j : ℕ) → a ≤ j → j < i + 1 → P j
up_to P a i h p j lo hi = ⊎_elim (λ e. rw e p) (λ k. h j lo k) (eq-or-lt_of_le {n = j} {m = i} (omega arith))

-- ---- the arc from v to y is one of those out of v
module _ {n : ℕ} {ts hs first : List ℕ} (star : Star n ts hs first) {v y : ℕ} (node : v ≤ n) where
  pub arc_at : (i : ℕ) → get_or first v 0 ≤ i → i < get_or first (v + 1) 0 → get_or hs i 0 ≡ y → At ts hs v y i
  arc_at i lo hi e = record { below = omega (arith, star.within (v + 1) (omega arith)); tail_is = star.out_of v i node lo hi; head_is = e }

  pub arc_among : {i : ℕ} → At ts hs v y i → (get_or first v 0 ≤ i) × (i < get_or first (v + 1) 0)
  arc_among {i} a = star.out v i node a.below a.tail_is

-- whose heads rise
out_rising : {n : ℕ} {ts hs first : List ℕ} → Star n ts hs first → (v : ℕ) → v ≤ n → Rising hs hs (get_or first v 0) (get_or first (v + 1) 0)
out_rising {hs = hs} star v node = record { rises = λ i j lo h hi. let l = star.rising i j h (omega (arith, star.within (v + 1) (omega arith))) (star.out_of v i node lo (omega arith) ∙ sym (star.out_of v j node (omega arith) hi)) in below_of (get_or hs i 0) (get_or hs i 0) (get_or hs j 0) (get_or hs j 0) (omega arith) (λ _. l) }

-- so what the search gives there, by heads, is the arc
pub arc_found : {hs first : List ℕ} {v y : ℕ} (o : Option ℕ) {looks : ℕ} → v + 1 < length first → get_or first (v + 1) 0 ≤ length hs → Finds hs hs (y, y) (get_or first v 0) (get_or first (v + 1) 0) (o, looks) → ArcFound hs first v y o
arc_found (Some i) v-in within f = let m = f.index_right i refl in here {i = i} (omega (arith, m.upto)) m.head_is (λ n ts star. arc_at star (omega (arith, star.long)) i m.from m.upto m.head_is)
arc_found {v = v} None v-in within f =
    missing (λ n ts star i a. let node : v ≤ n = omega (arith, star.long) in let o = arc_among star node a in f.none_right (out_rising star v node) refl i (record { from = o.0; upto = o.1; tail_is = a.head_is; head_is = a.head_is }))

-- ---- what was found
module _ {hs first : List ℕ} {v y : ℕ} where
  pub found_index : {i : ℕ} {o : Option ℕ} → ArcFound hs first v y o → o ≡ Some i → (i < length hs) × (get_or hs i 0 ≡ y)
  found_index {i = j} (here {i} h e a) t = let q : j ≡ i = cc in rw q (h, e)
  found_index (missing n) t = let z : ◌≡◌ {A = ℕ} 0 1 = cc in absurd (omega arith)

  pub found_at : {i n : ℕ} {ts : List ℕ} {o : Option ℕ} → ArcFound hs first v y o → o ≡ Some i → Star n ts hs first → At ts hs v y i
  found_at {i = j} {n = n} {ts = ts} (here {i} h e a) t s = let q : j ≡ i = cc in rw q (a n ts s)
  found_at (missing n) t s = let z : ◌≡◌ {A = ℕ} 0 1 = cc in absurd (omega arith)

  pub none_found : {n : ℕ} {ts : List ℕ} {o : Option ℕ} → ArcFound hs first v y o → o ≡ None → Star n ts hs first → (i : ℕ) → At ts hs v y i → ⊥
  none_found (here h e a) t s = let z : ◌≡◌ {A = ℕ} 0 1 = cc in absurd (omega arith)
  none_found {n = n} {ts = ts} (missing none) t s = none n ts s
