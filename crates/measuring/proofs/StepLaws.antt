-- The arcs of a path: where they are found, and that their sum in a column is the path's cost there. Assumes nothing.
use Prim.Native.Nat.{ℕ, suc, ◌+◌, ◌-◌, ◌*◌, ◌≤◌, ◌<◌}
use native.Mathlib.Omega.{arith}
use native.Mathlib.Numerals.{add-one}
use native.Mathlib.Nat.{eq-or-lt_of_le}
use mathlib.Core.Path.{◌≡◌, refl, sym, ◌∙◌, ap, ap₂, subst}
use mathlib.Core.Logic.{⊎_elim}
use mathlib.Core.List.Memᴰ
use mathlib.Core.List.{List, [], ◌∷◌, ◌++◌}
use lib.Dec.{eqb}
use Rattle.std.specs.Prelude.{Option, unwrap_or}
use lib.ListN.{length, get_or, set, take, drop, length-drop}
use lib.Seq.{drop-cons, get_or-take, get_or-drop}
use Rattle.std.proofs.lemmas.List.Elements.{All-from_get_or}
use Rattle.std.proofs.lemmas.List.Sums.{sum_by-cons, sum_by-le, sum_by_push}
use Rattle.terms.specs.Lists.{largest, index}
use Rattle.terms.specs.Network.{column}
use Rattle.terms.specs.Paths.{cost, cost_from}
use Rattle.terms.specs.Regret.{over, figure_over, worst_over}
use Rattle.terms.proofs.ListLaws.{map_numbers, largest_ge, mem_numbers}
use Rattle.star.specs.Arcs.{graph, Arcs, At}
use Rattle.star.proofs.ArcLaws.{at_weight}
use Rattle.star.proofs.Stores.{set_each}
use Rattle.star.specs.Star.{Star}
use Rattle.star.specs.Found.{ArcFound, here, missing}
use Rattle.star.specs.Layout.{tails_of, heads_of}
use Rattle.measuring.specs.Networks.{network_of, costs_in, IsColumn}
use Rattle.measuring.specs.declared.columns.Columns.{Columns}
use Rattle.measuring.specs.Steps.{Steps, sum_of, excess, excesses, Measured, Summed}
use Rattle.measuring.proofs.ColumnLaws.{length_columns, held_column, column_full, column_arcs, first_column}

-- what the arcs cost beyond the best of one column is no more than the largest
pub excess_within : (m : ℕ) (costs bests arcs : List ℕ) (u : ℕ) → 1 ≤ u → u ≤ length bests → excess m costs bests arcs u ≤ largest (excesses m costs bests arcs)
unfolding excesses
excess_within m costs bests arcs u lo hi = largest_ge (Memᴰ.map (excess m costs bests arcs) (mem_numbers 1 (length bests) u lo (omega arith)))

-- the sum from the arc at index i on is that arc's weight and the sum from the next one on
pub sum_more : (ws arcs : List ℕ) (i : ℕ) → i < length arcs → sum_of ws (drop i arcs) ≡ get_or ws (get_or arcs i 0) 0 + sum_of ws (drop (i + 1) arcs)
unfolding sum_of
sum_more ws arcs i h = rw (add-one, drop-cons arcs i 0 h) (sum_by-cons (λ a. get_or ws a 0) (get_or arcs i 0) (drop (suc i) arcs))

-- the sum of what is left before an arc is taken from its end
pub sum_last : (ws rest : List ℕ) (a : ℕ) {left : List ℕ} → left ≡ rest ++ (a ∷ []) → sum_of ws left ≡ sum_of ws rest + get_or ws a 0
sum_last ws rest a split = ap (sum_of ws) split ∙ sum_by_push (λ i. get_or ws i 0) rest a

-- weights of 32 bits
pub sum_small : (ws arcs : List ℕ) → ((i : ℕ) → get_or ws i 0 ≤ 4294967295) → sum_of ws arcs ≤ length arcs * 4294967295
sum_small ws arcs small = sum_by-le (λ a. get_or ws a 0) 4294967295 arcs (All-from_get_or (λ a. get_or ws a 0 ≤ 4294967295) arcs 0 (λ i h. small (get_or arcs i 0)))

-- the sum of the arcs in column i + 1, less the column's best
pub excess_is : (c : Columns) (bests arcs : List ℕ) (i : ℕ) {ws : List ℕ} {sum : ℕ} → ws ≡ costs_in c (i + 1) → sum ≡ sum_of ws arcs → sum - get_or bests i 0 ≡ excess c.arcs c.costs.now bests arcs (i + 1)
unfolding excess
excess_is c bests arcs i own e =
    let place : i ≡ i + 1 - 1 = omega arith in
    ap₂ (λ (x y : ℕ). x - y) (e ∙ ap (λ (l : List ℕ). sum_of l arcs) own) (ap (λ (x : ℕ). get_or bests x 0) place)

-- ---- the arcs of a path, found one by one
-- the pair that begins what is left after i nodes: these are nodes i and i + 1
pub pair_at : (path : List ℕ) {left pair : List ℕ} (i : ℕ) → left ≡ drop i path → 2 ≤ length left → pair ≡ take 2 left → (i + 1 < length path) × (get_or pair 0 0 ≡ get_or path i 0) × (get_or pair 1 0 ≡ get_or path (i + 1) 0)
pair_at path {left} {pair} i rest some first =
    let e : i + 0 ≡ i = omega arith in
    (omega (arith, ap length rest, length-drop i path), at 0 (omega arith) ∙ ap (λ (x : ℕ). get_or path x 0) e, at 1 (omega arith))
  where
    at : (k : ℕ) → k < 2 → get_or pair k 0 ≡ get_or path (i + k) 0
    at k h = ap (λ (l : List ℕ). get_or l k 0) first ∙ get_or-take 2 left k 0 h ∙ ap (λ (l : List ℕ). get_or l k 0) rest ∙ get_or-drop i path k 0

pub steps_more : {ts hs path arcs : List ℕ} {i a : ℕ} → i < length arcs → At ts hs (get_or path i 0) (get_or path (i + 1) 0) a → Steps ts hs path arcs (i + 1) → Steps ts hs path (set arcs i a) (i + 1 + 1)
steps_more {ts} {hs} {path} {arcs} {i} {a} inside found s = record { step = set_each (λ j x. suc j < i + 1 + 1 → At ts hs (get_or path j 0) (get_or path (suc j) 0) x) arcs i a inside (λ _. here) (λ j n h. s.step j (⊎_elim (λ e. absurd (n (omega arith))) (λ l. l) (eq-or-lt_of_le {n = suc j} {m = i + 1} (omega arith)))) }
  where
    here : At ts hs (get_or path i 0) (get_or path (suc i) 0) a
    here = let e : suc i ≡ i + 1 = omega arith in rw e found

-- what is found where there is an arc
pub found_or : {hs first : List ℕ} {v y i n : ℕ} {ts : List ℕ} {o : Option ℕ} → ArcFound hs first v y o → Star n ts hs first → At ts hs v y i → At ts hs v y (unwrap_or o 0)
found_or {n = n} {ts = ts} (here {i} inside is_head at) star a = at n ts star
found_or {i = i} {n = n} {ts = ts} (missing none) star a = absurd (none n ts star i a)

-- ---- they cost together what the path costs
module _ {n : ℕ} {ts hs ws : List ℕ} (A : Arcs n ts hs ws) where
  cost_after : (v : ℕ) (p arcs : List ℕ) → length arcs ≡ length p → Steps ts hs (v ∷ p) arcs (length (v ∷ p)) → cost_from (graph ts hs ws) v p ≡ sum_of ws arcs
  unfolding cost_from
  cost_after v [] [] h s = refl
  cost_after v [] (a ∷ arcs) h s = absurd (omega arith)
  cost_after v (x ∷ p) [] h s = absurd (omega arith)
  cost_after v (x ∷ p) (a ∷ arcs) h s = ap₂ (λ (y z : ℕ). y + z) (at_weight A (s.step 0 (omega arith))) (cost_after x p arcs (omega arith) (record { step = λ i l. s.step (suc i) (omega arith) })) ∙ sym (sum_by-cons (λ i. get_or ws i 0) a arcs)

  steps_cost : (path arcs : List ℕ) → length arcs ≡ length path - 1 → Steps ts hs path arcs (length path) → cost (graph ts hs ws) path ≡ sum_of ws arcs
  unfolding cost
  steps_cost [] [] h s = refl
  steps_cost [] (a ∷ arcs) h s = absurd (omega arith)
  steps_cost (v ∷ p) arcs h s = cost_after v p arcs (omega arith) s

-- ---- a path in the columns, with its arcs
module _ (c : Columns) {path arcs : List ℕ} (long : length arcs ≡ length path - 1) (steps : Steps (tails_of c.arcs c.star.now) (heads_of c.arcs c.star.now) path arcs (length path)) where
  cost_is : {u : ℕ} → IsColumn c u → cost (column (network_of c) u) path ≡ sum_of (costs_in c u) arcs
  cost_is C = ap (λ g. cost g path) (held_column c C) ∙ steps_cost (column_arcs c C) path arcs long steps

  arcs_many : length (tails_of c.arcs c.star.now) ≡ c.arcs
  arcs_many = omega (arith, (column_arcs c (first_column c)).weights_long, column_full c (first_column c))

  pub summed_path : (bests : List ℕ) → length bests ≡ c.count → length path ≤ 200 → ((u : ℕ) → 1 ≤ u → u ≤ c.count → get_or bests (u - 1) 0 ≤ cost (column (network_of c) u) path) → Summed c bests arcs
  summed_path bests bests_long few low = record {
    bests_long = bests_long;
    steps_few = omega (arith, long);
    arcs_in = All-from_get_or (λ a. a < c.arcs) arcs 0 (λ i h. omega (arith, arcs_many, (steps.step i (omega (arith, long))).below));
    bests_below = λ u from upto. omega (arith, low u from upto, cost_is (record { from = from; upto = upto }));
  }

  -- what it costs beyond the bests is what its arcs do
  over_is : (bests : List ℕ) → length bests ≡ c.count → over (network_of c) bests path ≡ excesses c.arcs c.costs.now bests arcs
  unfolding over excesses excess
  over_is bests bests_long = rw (length_columns c.nodes c.arcs c.count c.star.now c.costs.now, bests_long) (map_numbers _ (excess c.arcs c.costs.now bests arcs) 1 c.count (λ u lo hi. ap (λ x. x - get_or bests (u - 1) 0) (cost_is (record { from = lo; upto = omega arith }))))

  pub measured_path : (bests : List ℕ) → length bests ≡ c.count → {limit f w : ℕ} → Measured limit (largest (excesses c.arcs c.costs.now bests arcs)) (suc (index (eqb (largest (excesses c.arcs c.costs.now bests arcs))) (excesses c.arcs c.costs.now bests arcs))) f w
      → Measured limit (figure_over (network_of c) bests path) (worst_over (network_of c) bests path) f w
  unfolding figure_over worst_over
  measured_path bests bests_long {limit} {f} {w} r = subst (λ l. Measured limit (largest l) (suc (index (eqb (largest l)) l)) f w) (sym (over_is bests bests_long)) r
