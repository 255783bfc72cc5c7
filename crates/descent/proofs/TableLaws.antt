-- What the tables say is what the rule asks of each column: a node is dropped in the arrays exactly if the rule drops it. Assumes nothing.
use Prim.Native.Nat.{ℕ, zero, suc, ◌+◌, ◌-◌, ◌≤◌, ◌<◌}
use native.Mathlib.Omega.{arith}
use mathlib.Core.Path.{◌≡◌, refl, sym, ◌∙◌, ap, ap₂}
use mathlib.Core.Bool.{Bool, true, false, not}
use mathlib.Core.Logic.{⊎_elim}
use mathlib.Core.List.Memᴰ
use mathlib.Core.List.{List, map}
use native.Mathlib.Numerals.{sub-one}
use lib.Dec.{leb}
use lib.ListN.{length, get_or}
use borrow.Author.Tests.{leb-true, leb-false, le-leb, lt-leb}
use Rattle.terms.specs.Lists.{◌∈◌, largest, numbers}
use Rattle.terms.specs.Network.{Net, weight, column}
use Rattle.terms.specs.Paths.{Route, cost}
use Rattle.terms.specs.Regret.{best, deviation, deviations, figure}
use Rattle.descent.specs.Rule.{Best, State, ahead, outlook, hopeless, passable_in, passable, dropped, laid}
use Rattle.terms.proofs.ListLaws.{split, clash, or_right, mem_numbers, numbers_mem, map_numbers, largest_ge, largest_le}
use Rattle.descent.proofs.EachLaws.{every_all, all_every}
use Rattle.descent.specs.Rows.{stops, at_row, Low, Drops, in_column, in_none}
use Rattle.labels.specs.Labels.{far}
use Rattle.descent.specs.Tables.{CostIn, closed_there, open_there, LabelIn, no_way, reached, Ground}
use Rattle.descent.specs.Depth.{Holds, none_held, one_held, Given}
use Rattle.descent.specs.declared.depth.Held.{Held}
use Rattle.descent.proofs.RowLaws.{stops_closed, stops_far, stops_open}

-- a column from 1 is one from 0 and one more
numbered : {k u : ℕ} → u ∈ numbers 1 k → (w : ℕ) × (w < k) × (u ≡ suc w)
numbered {k} {u} m = let b = numbers_mem 1 k m in (u - 1, omega arith, omega arith)

-- ---- one column: the arc is closed, or its head can't reach the goal; or neither, and then the outlook decides
data InColumn (net : Net) (s t : ℕ) (p : Route) (v h u figure : ℕ) (stop : Bool) : Type 0 where
  blocked : passable_in net t v h (suc u) ≡ false → stop ≡ true → InColumn net s t p v h u figure stop
  clear : passable_in net t v h (suc u) ≡ true → stop ≡ leb figure (ahead net s t p v h (suc u)) → ahead net s t p v h (suc u) < far → InColumn net s t p v h u figure stop

module _ (net : Net) (s t : ℕ) (p : Route) (v h u figure w l b sum : ℕ) (low : sum ≤ 1000000000000) (sum_is_lem : sum ≡ cost (column net (suc u)) p) (best_is : b ≡ best net.nodes (column net (suc u)) s t) where
  in_one : CostIn (column net (suc u)) v h w → LabelIn net.nodes (column net (suc u)) t h l → InColumn net s t p v h u figure (stops w l b sum figure)
  unfolding passable_in ahead
  in_one (closed_there e f) r = blocked (rw f refl) (stops_closed w l b sum figure e)
  in_one (open_there e f g) (no_way d r) = blocked (rw (f, r) refl) (stops_far w l b sum figure d)
  in_one (open_there e f g) (reached d r k) =
      clear (rw (f, r) refl) (stops_open w l b sum figure (λ z. omega arith) (λ z. omega arith) ∙ ap (leb figure) (omega arith)) (omega arith)

-- ---- the best figure and the outlook
hopeless_from : {path : List ℕ} {len fig x y : ℕ} {b : Best} → Holds path len fig b → fig ≤ x → x < far → x ≤ y → hopeless b y ≡ true
unfolding hopeless
hopeless_from (none_held _ e) l lo k = absurd (omega arith)
hopeless_from {y} (one_held {f} _ _ _ e _) l lo k = le-leb f y (omega arith)

hopeless_not : {path : List ℕ} {len fig y : ℕ} {b : Best} → Holds path len fig b → y < fig → hopeless b y ≡ false
unfolding hopeless
hopeless_not (none_held _ _) l = refl
hopeless_not {y} (one_held {f} _ _ _ e _) l = lt-leb f y (omega arith)

module _ {net : Net} {s t : ℕ} {seen : List ℕ} {z : State} {hs outs costs labels bests : List ℕ} {places goal v d : ℕ} {route path sums : List ℕ} {h : Held}
    (given : Given net s t seen z hs outs costs labels bests places goal v d route path sums h) where
  -- ---- the figure of the route
  pub figure_is : figure net s t (laid seen v) ≡ largest (map (λ u. get_or sums (u - 1) 0 - get_or bests (u - 1) 0) (numbers 1 (length bests)))
  unfolding figure deviations deviation
  figure_is = rw given.tables.columns_are (ap largest (map_numbers _ _ 1 (length bests) each_column))
    where
      each_column : (u : ℕ) → 1 ≤ u → u < 1 + length bests → cost (column net u) (laid seen v) - best net.nodes (column net u) s t ≡ get_or sums (u - 1) 0 - get_or bests (u - 1) 0
      each_column zero lo hi = absurd (omega arith)
      each_column (suc w) lo hi = rw (sub-one (suc w)) (ap₂ ◌-◌ (sym (given.sums_are w (omega arith))) (sym (given.tables.bests_are w (omega arith))))

  -- ---- the node at arc i
  module _ (ground : Ground hs outs costs labels bests places) (few : d ≤ 200) (low : Low d sums) (i : ℕ) (v-in : v < places) (from : get_or outs v 0 ≤ i) (to : i < get_or outs (v + 1) 0) (i-in : i < length hs) where
    columns_say : (u : ℕ) → u < length bests
        → InColumn net s t (laid seen v) v (get_or hs i 0) u h.figure (stops (at_row (length hs) costs u i) (at_row places labels u (get_or hs i 0)) (get_or bests u 0) (get_or sums u 0) h.figure)
    columns_say u l =
        in_one net s t (laid seen v) v (get_or hs i 0) u h.figure (at_row (length hs) costs u i) (at_row places labels u (get_or hs i 0)) (get_or bests u 0) (get_or sums u 0) (omega (arith, low.low u))
        (given.sums_are u l) (given.tables.bests_are u l) (given.tables.costs_are u v i l v-in from to) (given.tables.labels_are u (get_or hs i 0) l (ground.head_from i i-in) (ground.head_in i i-in))

    abbrev stop : ℕ → Bool
    stop u = stops (at_row (length hs) costs u i) (at_row places labels u (get_or hs i 0)) (get_or bests u 0) (get_or sums u 0) h.figure

    abbrev from_here : ℕ → ℕ
    from_here = ahead net s t (laid seen v) v (get_or hs i 0)

    ahead_le : (u : ℕ) → u < length bests → from_here (suc u) ≤ outlook net s t (laid seen v) v (get_or hs i 0)
    unfolding outlook
    ahead_le u l = largest_ge (Memᴰ.map from_here (mem_numbers 1 (length net.columns) (suc u) (omega arith) (omega (arith, given.tables.columns_are))))

    -- dropped in one column
    blocked_drops : (u : ℕ) → u < length bests → passable_in net t v (get_or hs i 0) (suc u) ≡ false → passable net t v (get_or hs i 0) ≡ false
    unfolding passable
    blocked_drops u l q =
        ⊎_elim (λ e. clash (every_all (passable_in net t v (get_or hs i 0)) e (mem_numbers 1 (length net.columns) (suc u) (omega arith) (omega (arith, given.tables.columns_are)))) q) (λ e. e) (split (passable net t v (get_or hs i 0)))

    drops_one : (u : ℕ) → u < length bests → stop u ≡ true → dropped net s t (laid seen v) v (get_or hs i 0) z.found ≡ true
    unfolding dropped
    drops_one u l e = one (columns_say u l)
      where
        one : InColumn net s t (laid seen v) v (get_or hs i 0) u h.figure (stop u) → dropped net s t (laid seen v) v (get_or hs i 0) z.found ≡ true
        one (blocked q _) = rw (blocked_drops u l q) refl
        one (clear q d lo) = or_right (not (passable net t v (get_or hs i 0))) (hopeless_from given.matches.found_is (leb-true h.figure (from_here (suc u)) (sym d ∙ e)) lo (ahead_le u l))

    -- dropped in none
    drops_none : ((u : ℕ) → u < length bests → stop u ≡ false) → dropped net s t (laid seen v) v (get_or hs i 0) z.found ≡ false
    unfolding dropped passable outlook
    drops_none f = rw all (hopeless_not given.matches.found_is less)
      where
        none : (u : ℕ) → u < length bests → InColumn net s t (laid seen v) v (get_or hs i 0) u h.figure (stop u) → (passable_in net t v (get_or hs i 0) (suc u) ≡ true) × (from_here (suc u) < h.figure)
        none u l (blocked _ e) = clash e (f u l)
        none u l (clear q d _) = (q, leb-false h.figure (from_here (suc u)) (sym d ∙ f u l))

        all : passable net t v (get_or hs i 0) ≡ true
        all = all_every (passable_in net t v (get_or hs i 0)) (numbers 1 (length net.columns))
            (λ u m. let n = numbered m in let l : n.0 < length bests = omega (arith, given.tables.columns_are) in ap (passable_in net t v (get_or hs i 0)) n.2 ∙ (none n.0 l (columns_say n.0 l)).0)

        under : (y : ℕ) → y ∈ map from_here (numbers 1 (length net.columns)) → y ≤ h.figure - 1
        under y m =
            let o = Memᴰ.of_map from_here (numbers 1 (length net.columns)) m in
            let n = numbered o.1 in
            let l : n.0 < length bests = omega (arith, given.tables.columns_are) in
            omega (arith, (none n.0 l (columns_say n.0 l)).1, ap from_here n.2, o.2)

        less : outlook net s t (laid seen v) v (get_or hs i 0) < h.figure
        less = omega (arith, largest_le (h.figure - 1) (map from_here (numbers 1 (length net.columns))) under, (none 0 ground.columns_from (columns_say 0 ground.columns_from)).1)

    -- so the code drops it exactly if the rule does
    pub drops_is : {r : Bool} → Drops (length hs) places i (get_or hs i 0) costs labels bests sums h.figure r → dropped net s t (laid seen v) v (get_or hs i 0) z.found ≡ r
    drops_is (in_column u l e) = drops_one u l e
    drops_is (in_none f) = drops_none f

    pub kept_open : {r : Bool} → Drops (length hs) places i (get_or hs i 0) costs labels bests sums h.figure r → r ≡ false → (u : ℕ) → u < length bests → weight (column net (suc u)) v (get_or hs i 0) ≡ at_row (length hs) costs u i
    kept_open (in_column u l e) d w k = clash refl d
    kept_open (in_none f) d u l = costed (given.tables.costs_are u v i l v-in from to)
      where
        costed : CostIn (column net (suc u)) v (get_or hs i 0) (at_row (length hs) costs u i) → weight (column net (suc u)) v (get_or hs i 0) ≡ at_row (length hs) costs u i
        costed (closed_there e g) = clash (stops_closed _ _ _ _ _ e) (f u l)
        costed (open_there e g k) = k
