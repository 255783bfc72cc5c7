-- All arcs of an accepted image in a star, all columns, their labels and bests are the tables of the search. Assumes nothing.
use Prim.Native.Nat.{ℕ, zero, suc, ◌+◌, ◌*◌, ◌-◌, ◌≤◌, ◌<◌}
use native.Mathlib.Omega.{arith}
use native.Mathlib.Decide.{ℕ_discrete}
use mathlib.Core.Path.{◌≡◌, refl, sym, ◌∙◌, ap, ap₂, subst, subst₂}
use mathlib.Core.Bool.{Bool, true, false}
use mathlib.Core.Logic.{⊎_elim}
use mathlib.Core.List.{List, [], ◌∷◌, map}
use lib.Dec.{eqb}
use lib.ListN.{length, get_or, take, drop, replicate, length-map, get_or-map}
use lib.Seq.{get_or-take, get_or-drop}
use borrow.Author.Tests.{eqb-true, eq-eqb, le-leb}
use Rattle.terms.specs.Lists.{◌∈◌, keep}
use Rattle.terms.specs.Network.{Arc, Net, mark, heads, linked, weight, cost_column, column, Cost, at_most, marked, Admitted}
use Rattle.terms.specs.Paths.{paths}
use Rattle.terms.specs.Regret.{best}
use Rattle.terms.proofs.ListLaws.{split, clash, get_or_mem, take_map, mem_length}
use Rattle.terms.proofs.PathLaws.{column_within, path_listed}
use Rattle.terms.proofs.GraphLaws.{linked_arc, arc_linked, carried}
use Rattle.terms.proofs.NetworkLaws.{ArcAt, column_arc, arc_column, column_simple, costs_mem, costs_long}
use Rattle.terms.proofs.RegretLaws.{label_reached}
use Rattle.star.specs.Arcs.{Arcs}
use Rattle.star.specs.Layout.{tails_of, heads_of, outs_of}
use Rattle.image.specs.Layout.{net_of}
use Rattle.image.specs.declared.check.Sizes.{Sizes}
use Rattle.loading.specs.Accepted.{Accepted}
use Rattle.loading.specs.Selected.{in_a_row}
use Rattle.loading.specs.Loaded.{Shape}
use Rattle.loading.proofs.RowLaws.{row_length, row_part}
use Rattle.loading.proofs.DecodeLaws.{tails, arcs_decoded, admitted}
use Rattle.loading.proofs.DecodeLaws as decoded
use Rattle.loading.proofs.ShapeLaws.{bare_arcs}
use Rattle.network_calls.specs.Held.{Reached}
use Rattle.descent.specs.Rule.{drawn}
use Rattle.descent.specs.Rows.{at_row}
use Rattle.descent.specs.Tables.{CostIn, closed_there, open_there, LabelIn, no_way, reached, heads_at, TablesIn, Fits}
use Rattle.search_calls.specs.Labelled.{LabelRows}

-- ---- what a test keeps is a part, if what passes stands together
keep_part : {A : Type 0} (f : A → Bool) (d : A) (l : List A) (a b : ℕ) → b ≤ length l → ((i : ℕ) → a ≤ i → i < b → f (get_or l i d) ≡ true) → ((i : ℕ) → i < length l → f (get_or l i d) ≡ true → (a ≤ i) × (i < b)) → keep f l ≡ take (b - a) (drop a l)
unfolding keep
keep_part f d [] a b h yes' only = let e : b - a ≡ 0 = omega arith in rw e refl
keep_part f d (x ∷ l) zero zero h yes' only =
    ⊎_elim (λ e. absurd (omega (arith, only 0 (omega arith) e))) (λ e. rw e (keep_part f d l 0 0 (omega arith) (λ i lo hi. absurd (omega arith)) (λ i k e. absurd (omega (arith, only (suc i) (omega arith) e))))) (split (f x))
keep_part f d (x ∷ l) zero (suc b) h yes' only =
    rw (yes' 0 (omega arith) (omega arith)) (ap (λ r. x ∷ r) (keep_part f d l 0 b (omega arith) (λ i lo hi. yes' (suc i) (omega arith) (omega arith)) (λ i k e. (omega arith, omega (arith, only (suc i) (omega arith) e)))) ∙ (let e : suc b - 0 ≡ suc (b - 0) = omega arith in rw e refl))
keep_part f d (x ∷ l) (suc a) b h yes' only =
    let fewer : b - 1 - a ≡ b - suc a = omega arith in
    ⊎_elim (λ e. absurd (omega (arith, only 0 (omega arith) e)))
    (λ e. rw e (keep_part f d l a (b - 1) (omega arith) (λ i lo hi. yes' (suc i) (omega arith) (omega arith)) (λ i k e. let o = only (suc i) (omega arith) e in (omega arith, omega arith)) ∙ ap (λ (n : ℕ). take n (drop a l)) fewer))
    (split (f x))

-- ---- heads of arcs
abbrev as_arc : ℕ × ℕ → Arc
as_arc a = record { tail = a.0; head = a.1; weight = 0 }

heads_kept : (v : ℕ) (l : List (ℕ × ℕ)) → map (λ x. x.head) (keep (λ x. eqb x.tail v) (map as_arc l)) ≡ decoded.heads (keep (λ a. eqb a.0 v) l)
unfolding keep
heads_kept v [] = refl
heads_kept v (a ∷ l) = ⊎_elim (λ e. rw e (ap (λ (r : List ℕ). a.1 ∷ r) (heads_kept v l))) (λ e. rw e (heads_kept v l)) (split (eqb a.0 v))

heads_drop : (i : ℕ) (l : List (ℕ × ℕ)) → decoded.heads (drop i l) ≡ drop i (decoded.heads l)
heads_drop zero l = refl
heads_drop (suc i) [] = refl
heads_drop (suc i) (a ∷ l) = heads_drop i l

-- ---- the arcs in a star
module _ {e : ℕ} {net : Net} (ok : Admitted e net) {star : List ℕ} (S : Shape net star) where
  abbrev m : ℕ
  m = length net.arcs

  abbrev hs : List ℕ
  hs = heads_of m star

  abbrev outs : List ℕ
  outs = outs_of (net.nodes + 1) m star

  tail_at : (i : ℕ) → get_or (tails_of m star) i 0 ≡ (get_or net.arcs i (0, 0)).0
  tail_at i = ap (λ (l : List ℕ). get_or l i 0) S.tails_are ∙ get_or-map (λ (a : ℕ × ℕ). a.0) net.arcs i (0, 0)

  head_is : (i : ℕ) → get_or hs i 0 ≡ (get_or net.arcs i (0, 0)).1
  head_is i = ap (λ (l : List ℕ). get_or l i 0) S.heads_are ∙ get_or-map (λ (a : ℕ × ℕ). a.1) net.arcs i (0, 0)

  tails_long : length (tails_of m star) ≡ m
  tails_long = ap length S.tails_are ∙ length-map net.arcs (λ (a : ℕ × ℕ). a.0)

  hs_long : length hs ≡ m
  hs_long = ap length S.heads_are ∙ length-map net.arcs (λ (a : ℕ × ℕ). a.1)

  arcs : Arcs net.nodes (tails net.arcs) (decoded.heads net.arcs) (replicate (length net.arcs) 0)
  arcs = bare_arcs (arcs_decoded ok)

  arcs_long : length (tails net.arcs) ≡ m
  arcs_long = length-map net.arcs (λ (a : ℕ × ℕ). a.0)

  star_heads : (v : ℕ) → v < net.nodes + 1 → heads (drawn net) v ≡ heads_at hs outs v
  unfolding heads drawn heads_at
  star_heads v h =
      heads_kept v net.arcs
      ∙ ap decoded.heads (keep_part (λ (a : ℕ × ℕ). eqb a.0 v) (0, 0) net.arcs (get_or outs v 0) (get_or outs (v + 1) 0) (omega (arith, S.star.within (v + 1) (omega arith), tails_long))
      (λ i lo hi. eq-eqb _ _ (sym (tail_at i) ∙ S.star.out_of v i (omega arith) lo hi)) (λ i l k. S.star.out v i (omega arith) (omega (arith, tails_long)) (tail_at i ∙ eqb-true _ _ k)))
      ∙ take_map (λ (a : ℕ × ℕ). a.1) (get_or outs (v + 1) 0 - get_or outs v 0) (drop (get_or outs v 0) net.arcs)
      ∙ ap (take (get_or outs (v + 1) 0 - get_or outs v 0)) (heads_drop (get_or outs v 0) net.arcs ∙ ap (drop (get_or outs v 0)) (sym S.heads_are))

  -- ---- the cost of an arc in a column
  module _ (u : ℕ) (from : 1 ≤ u) (upto : u ≤ length net.columns) (i : ℕ) (inside : i < m) where
    abbrev w : ℕ
    w = get_or (cost_column net u) i 0

    abbrev a : ℕ
    a = (get_or net.arcs i (0, 0)).0

    abbrev b : ℕ
    b = (get_or net.arcs i (0, 0)).1

    -- an arc of the column between the same nodes has this index
    same_place : (x : Arc) (j : ℕ) → ArcAt net u j x → x.tail ≡ a → x.head ≡ b → j ≡ i
    same_place x j at p q =
        arcs.simple j i (omega (arith, at.below_arcs, arcs_long)) (omega (arith, arcs_long))
        (get_or-map (λ (a : ℕ × ℕ). a.0) net.arcs j (0, 0) ∙ sym at.tail_is ∙ p ∙ sym (get_or-map (λ (a : ℕ × ℕ). a.0) net.arcs i (0, 0)))
        (get_or-map (λ (a : ℕ × ℕ). a.1) net.arcs j (0, 0) ∙ sym at.head_is ∙ q ∙ sym (get_or-map (λ (a : ℕ × ℕ). a.1) net.arcs i (0, 0)))

    closed : w ≡ mark → linked (column net u) a b ≡ false
    closed z = ⊎_elim (λ l. absurd (never (linked_arc (column net u) a b l))) (λ l. l) (split (linked (column net u) a b))
      where
        never : (x : Arc) × (x ∈ column net u) × (x.tail ≡ a) × (x.head ≡ b) → ⊥
        never (x, k, p, q) =
            let j = column_arc net u k in
            j.1.not_closed (j.1.weight_is ∙ ap (λ (y : ℕ). get_or (cost_column net u) y 0) (same_place x j.0 j.1 p q) ∙ z)

    module _ (n : w ≡ mark → ⊥) where
      abbrev arc : Arc
      arc = record { tail = a; head = b; weight = w }

      there : arc ∈ column net u
      there = arc_column u (record { below_arcs = inside; below_costs = omega (arith, costs_long ok u from upto); tail_is = refl; head_is = refl; weight_is = refl; not_closed = n })

      joined : linked (column net u) a b ≡ true
      joined = arc_linked there

      weighs : weight (column net u) a b ≡ w
      weighs = let c = carried (column net u) a b joined in c.weight_is ∙ ap (λ (x : Arc). x.weight) ((column_simple ok u).same c.arc arc c.in_graph there c.tail_is c.head_is)

      light : w ≤ 1000000
      light = cheap (ok.costs_to (cost_column net u) (costs_mem ok u from upto) w (get_or_mem (cost_column net u) 0 i (omega (arith, costs_long ok u from upto))))
        where
          cheap : Cost e w → w ≤ 1000000
          cheap (at_most h) = h
          cheap (marked _ h) = absurd (n h)

    pub cost_in : CostIn (column net u) a b w
    cost_in = by_case (ℕ_discrete w mark)
      where
        by_case : Dec (w ≡ mark) → CostIn (column net u) a b w
        by_case (yes z) = closed_there z (closed z)
        by_case (no n) = open_there (light n) (joined n) (weighs n)

  -- ---- all columns, one after the other
  module _ {costs : List ℕ} (are : costs ≡ in_a_row net.columns) where
    pub costs_row : length costs ≡ length net.columns * m
    costs_row = ap length are ∙ row_length m net.columns ok.full

    cost_at : (u i : ℕ) → u < length net.columns → i < m → get_or costs (u * m + i) 0 ≡ get_or (cost_column net (suc u)) i 0
    unfolding cost_column
    cost_at u i h l =
        let z : suc u - 1 ≡ u = omega arith in
        ap (λ (c : List ℕ). get_or c (u * m + i) 0) are
        ∙ sym (get_or-drop (u * m) (in_a_row net.columns) i 0)
        ∙ sym (get_or-take m (drop (u * m) (in_a_row net.columns)) i 0 l)
        ∙ ap (λ (c : List ℕ). get_or c i 0) (row_part m net.columns ok.full u h)
        ∙ ap (λ (x : ℕ). get_or (get_or net.columns x []) i 0) (sym z)

    star_costs : (u v i : ℕ) → u < length net.columns → v < net.nodes + 1 → get_or outs v 0 ≤ i → i < get_or outs (v + 1) 0 → CostIn (column net (suc u)) v (get_or hs i 0) (at_row (length hs) costs u i)
    star_costs u v i h l lo hi =
        let inside : i < m = omega (arith, S.star.within (v + 1) (omega arith), tails_long) in
        let c = cost_in (suc u) (omega arith) (omega arith) i inside in
        let p = subst (λ (x : ℕ). CostIn (column net (suc u)) x (get_or net.arcs i (0, 0)).1 (get_or (cost_column net (suc u)) i 0)) (sym (tail_at i) ∙ S.star.out_of v i (omega arith) lo hi) c in
        let q = subst (λ (x : ℕ). CostIn (column net (suc u)) v x (get_or (cost_column net (suc u)) i 0)) (sym (head_is i)) p in
        subst (λ (x : ℕ). CostIn (column net (suc u)) v (get_or hs i 0) x) (sym (cost_at u i h inside) ∙ ap (λ (x : ℕ). get_or costs (u * x + i) 0) (sym hs_long)) q

    -- ---- with labels and bests
    module _ (s : ℕ) {t : ℕ} {labels : List ℕ} (bests : List ℕ) (L : LabelRows net t (length bests) (net.nodes + 1) labels) (count : length bests ≡ length net.columns) where
      pub fits : Fits m (net.nodes + 1) star costs labels bests
      fits = record {
        arcs_to = ok.arcs_to;
        star_long = S.long;
        ground = record {
          columns_from = omega (arith, ok.columns_from);
          rows = record {
            columns_to = omega (arith, ok.columns_to);
            costs_long = costs_row ∙ ap₂ (λ (x y : ℕ). x * y) (sym count) (sym hs_long);
            labels_long = L.long;
            labels_low = L.low;
          };
          few = omega (arith, ok.nodes_to);
          outs_long = omega (arith, S.star.long);
          outs_within = λ v h. omega (arith, S.star.within v (omega arith), tails_long, hs_long);
          head_from = λ i h. omega (arith, ap (λ (l : List ℕ). get_or l i 0) S.heads_are, arcs.head_from i (omega (arith, hs_long, arcs_long)));
          head_in = λ i h. omega (arith, ap (λ (l : List ℕ). get_or l i 0) S.heads_are, arcs.head_to i (omega (arith, hs_long, arcs_long)));
        };
      }

      -- the start's label is the best, where a path is open in the column
      best_at : (u : ℕ) → Reached net s t → u < length bests → at_row (net.nodes + 1) labels u s ≡ best net.nodes (column net (suc u)) s t
      best_at u R h = told (L.labels_are u s h R.ends.start_in.from (omega (arith, R.ends.start_in.upto)))
        where
          listed : R.route ∈ paths net.nodes (column net (suc u)) s t
          listed = path_listed net.nodes (column_within ok (suc u)) R.ends.start_in.from R.ends.start_in.upto (R.path.in_column (suc u) (omega arith) (omega (arith, count)))

          told : {l : ℕ} → LabelIn net.nodes (column net (suc u)) t s l → l ≡ best net.nodes (column net (suc u)) s t
          told (no_way z none) = absurd (let k = mem_length listed in clash (le-leb 1 _ k) none)
          told (reached low some is) = sym is ∙ label_reached net.nodes (column net (suc u)) s t listed

      pub tables : Reached net s t → ((u : ℕ) → u < length bests → get_or bests u 0 ≡ at_row (net.nodes + 1) labels u s) → TablesIn net s t m (net.nodes + 1) star costs labels bests
      tables R taken = record {
        nodes_are = refl;
        columns_are = sym count;
        heads_are = star_heads;
        costs_are = λ u v i h. star_costs u v i (omega (arith, count));
        labels_are = L.labels_are;
        bests_are = λ u h. taken u h ∙ best_at u R h;
      }

-- ---- of an accepted image, with its sizes
module _ {b : List ℕ} {sizes : Sizes} (a : Accepted b sizes) (s : ℕ) {t : ℕ} {star costs labels : List ℕ} (S : Shape (net_of b) star) (are : costs ≡ in_a_row (net_of b).columns)
    (L : LabelRows (net_of b) t sizes.k (sizes.n + 1) labels) (bests : List ℕ) (count : length bests ≡ sizes.k) where
  labelled : LabelRows (net_of b) t (length bests) ((net_of b).nodes + 1) labels
  labelled = subst₂ (λ (k n : ℕ). LabelRows (net_of b) t k (n + 1) labels) (sym count) a.nodes_are L

  pub image_fits : Fits sizes.m (sizes.n + 1) star costs labels bests
  image_fits = subst₂ (λ (m n : ℕ). Fits m (n + 1) star costs labels bests) (sym a.arcs_are) (sym a.nodes_are) (fits (admitted a) S are s bests labelled (count ∙ a.columns_are))

  pub image_tables : Reached (net_of b) s t → ((u : ℕ) → u < length bests → get_or bests u 0 ≡ at_row (sizes.n + 1) labels u s) → TablesIn (net_of b) s t sizes.m (sizes.n + 1) star costs labels bests
  image_tables R taken =
      subst₂ (λ (m n : ℕ). TablesIn (net_of b) s t m (n + 1) star costs labels bests) (sym a.arcs_are) (sym a.nodes_are)
      (tables (admitted a) S are s bests labelled (count ∙ a.columns_are) R (λ u h. taken u h ∙ ap (λ (n : ℕ). at_row (n + 1) labels u s) a.nodes_are))
