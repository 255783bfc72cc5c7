-- What the rule drops would not have bettered the best, so its answer is the first in node order of all paths with the least figure. Assumes
-- nothing.
use Prim.Native.Nat.{ℕ, zero, suc, ◌+◌, ◌≤◌, ◌<◌}
use native.Mathlib.Omega.{arith}
use mathlib.Core.Path.{◌≡◌, refl, sym, ◌∙◌, ap}
use mathlib.Core.Bool.{true, false}
use mathlib.Core.Logic.{◌⊎◌, inl, inr, ⊎_elim}
use mathlib.Core.List.Memᴰ
use mathlib.Core.List.{List, [], ◌∷◌, map, flat_map, reverse, reverse_aux, reverse_aux-eq}
use lib.Dec.{leb, eqb}
use lib.ListN.{length}
use borrow.Author.Tests.{not-true, leb-true, le-leb, lt-ltb, le-ltb}
use Rattle.terms.specs.Lists.{◌∈◌, elem, numbers}
use Rattle.terms.specs.Network.{Graph, Net, Admitted, linked, column}
use Rattle.terms.specs.Paths.{Route, OpenPath, cost, exits, walks, paths}
use Rattle.terms.specs.Ranking.{lex, before}
use Rattle.terms.specs.Regret.{deviation, figure}
use Rattle.terms.specs.Robust.{Answer, settled, robust}
use Rattle.terms.specs.Demand3.{contest, Settled, Demand3, none, closed, unsettled}
use Rattle.descent.specs.Rule.{each, drawn, Best, nothing, held, State, better, complete, one_more, ahead, outlook, hopeless, passable_in, passable, dropped, laid, try, descend, fresh_state, search, FirstLeast, Answers, none_open, first_open}
use Rattle.terms.proofs.ListLaws.{split, clash, le_or_lt, or_cases, and_both, mem_length, numbers_mem, largest_le}
use Rattle.terms.proofs.PathLaws.{PathFrom, starts, walks_sound, paths_complete, listed_path, path_listed, column_within}
use Rattle.terms.proofs.PrefixLaws.{cost_append, cost_cons, rebar}
use Rattle.terms.proofs.RankingLaws.{before_irrefl, before_connected, before_trans, Rising, first}
use Rattle.terms.proofs.RegretLaws.{best_le, label_reached, deviation_le_figure}
use Rattle.terms.proofs.Demand3Laws.{demand_3}
use Rattle.descent.proofs.EachLaws.{every_all, all_every, each_map, each_idle, each_parts}
use Rattle.descent.proofs.JointLaws.{everywhere, joint, everywhere_column, joint_column, joint_within, exits_joint, carry, joint_path, path_joint}
use Rattle.descent.proofs.OrderLaws.{node_order, paths_rising}

-- ---- the best of a list, one after the other: of a list in node order the first with the least figure is held at the end
-- z holds the first of l, in node order, with the least figure
record Wins (fig : Route → ℕ) (l : List Route) (z : Best) : Type 0 where
  winner : Route
  holds : z ≡ held winner (fig winner)
  listed : winner ∈ l
  least : (q : Route) → q ∈ l → fig winner ≤ fig q
  earliest : (q : Route) → q ∈ l → before [] q winner ≡ true → fig winner < fig q

module _ (fig : Route → ℕ) where
  replaced : (p q : Route) → fig p < fig q → better fig p (held q (fig q)) ≡ held p (fig p)
  unfolding better
  replaced p q h = rw (lt-ltb (fig p) (fig q) h)

  unimproved : (p q : Route) (f : ℕ) → f ≤ fig p → better fig p (held q f) ≡ held q f
  unfolding better
  unimproved p q f h = rw (le-ltb (fig p) f h)

  wins : (x : Route) (l : List Route) → Rising [] (x ∷ l) → Wins fig (x ∷ l) (each (better fig) l (held x (fig x)))
  unfolding each
  wins x [] r = record { winner = x; holds = refl; listed = Memᴰ.head refl; least = λ q m. omega (arith, ap fig (only m)); earliest = λ q m b. let e : q ≡ x = only m in clash (rw e at b) (before_irrefl [] x) }
    where
      only : {q : Route} → q ∈ x ∷ [] → q ≡ x
      only m = Memᴰ.eq_of_singleton m
  wins x (y ∷ l) (first a (first b r)) = ⊎_elim (λ h. stays h (wins x l (first (λ q m. a q (Memᴰ.tail m)) r))) (λ h. yields h (wins y l (first b r))) (le_or_lt (fig x) (fig y))
    where
      -- y is better: x has a larger figure than any winner from y on
      yields : fig y < fig x → Wins fig (y ∷ l) (each (better fig) l (held y (fig y))) → Wins fig (x ∷ y ∷ l) (each (better fig) l (better fig y (held x (fig x))))
      yields h w = record { winner = w.winner; holds = ap (each (better fig) l) (replaced y x h) ∙ w.holds; listed = Memᴰ.tail w.listed; least = λ q m. ⊎_elim (λ e. omega (arith, less, ap fig e)) (w.least q) (Memᴰ.cases_cons m); earliest = λ q m c. ⊎_elim (λ e. omega (arith, less, ap fig e)) (λ k. w.earliest q k c) (Memᴰ.cases_cons m) }
        where
          less : fig w.winner < fig x
          less = omega (arith, w.least y (Memᴰ.head refl))

      -- y is not: what comes before the winner and is y comes after x, which has no larger figure
      stays : fig x ≤ fig y → Wins fig (x ∷ l) (each (better fig) l (held x (fig x))) → Wins fig (x ∷ y ∷ l) (each (better fig) l (better fig y (held x (fig x))))
      stays h w = record { winner = w.winner; holds = ap (each (better fig) l) (unimproved y x (fig x) h) ∙ w.holds; listed = among (Memᴰ.cases_cons w.listed); least = λ q m. some_least q (apart m); earliest = λ q m c. some_earliest q (apart m) c }
        where
          among : {q : Route} → (q ≡ x) ⊎ (q ∈ l) → q ∈ x ∷ y ∷ l
          among (inl e) = Memᴰ.head e
          among (inr k) = Memᴰ.tail (Memᴰ.tail k)

          apart : {q : Route} → q ∈ x ∷ y ∷ l → (q ∈ x ∷ l) ⊎ (q ≡ y)
          apart m = ⊎_elim (λ e. inl (Memᴰ.head e)) (λ k. ⊎_elim (λ e. inr e) (λ o. inl (Memᴰ.tail o)) (Memᴰ.cases_cons k)) (Memᴰ.cases_cons m)

          some_least : (q : Route) → (q ∈ x ∷ l) ⊎ (q ≡ y) → fig w.winner ≤ fig q
          some_least q (inl k) = w.least q k
          some_least q (inr e) = omega (arith, w.least x (Memᴰ.head refl), ap fig e)

          some_earliest : (q : Route) → (q ∈ x ∷ l) ⊎ (q ≡ y) → before [] q w.winner ≡ true → fig w.winner < fig q
          some_earliest q (inl k) c = w.earliest q k c
          some_earliest q (inr e) c = omega (arith, w.earliest x (Memᴰ.head refl) (before_trans [] x y w.winner (a y (Memᴰ.head refl)) (rw e at c)), ap fig e)

-- the cost of a route by way of v
pub cost_laid : (g : Graph) (seen : List ℕ) (v : ℕ) (q : List ℕ) → cost g (reverse_aux seen (v ∷ q)) ≡ cost g (laid seen v) + cost g (v ∷ q)
unfolding laid
cost_laid g seen v q = ap (cost g) (reverse_aux-eq seen (v ∷ q)) ∙ cost_append g (reverse seen) v q ∙ ap (λ (p : Route). cost g p + cost g (v ∷ q)) (sym (reverse_aux-eq seen (v ∷ [])))

module _ (net : Net) (s t : ℕ) where
  -- ---- a node that is tried
  try_dropped : (seen : List ℕ) (v h : ℕ) (deeper : State → State) (z : State) → dropped net s t (laid seen v) v h z.found ≡ true → try net s t seen v h deeper z ≡ one_more z
  unfolding try
  try_dropped seen v h deeper z e = rw e

  try_taken : (seen : List ℕ) (v h : ℕ) (deeper : State → State) (z : State) → dropped net s t (laid seen v) v h z.found ≡ false → try net s t seen v h deeper z ≡ deeper (one_more z)
  unfolding try
  try_taken seen v h deeper z e = rw e

  -- one that is closed in some column is dropped
  passable_everywhere : (v h : ℕ) → passable net t v h ≡ true → everywhere net v h ≡ true
  unfolding passable passable_in everywhere
  passable_everywhere v h e =
      all_every (λ (u : ℕ). linked (column net u) v h) (numbers 1 (length net.columns))
      (λ u m. (and_both (linked (column net u) v h) (leb 1 (length (paths net.nodes (column net u) h t))) (every_all (passable_in net t v h) e m)).0)

  closed_dropped : (p : Route) (v h : ℕ) (z : Best) → everywhere net v h ≡ false → dropped net s t p v h z ≡ true
  unfolding dropped
  closed_dropped p v h z e = ⊎_elim (λ k. clash (passable_everywhere v h k) e) (λ k. rw k) (split (passable net t v h))

  module _ {e : ℕ} (ok : Admitted e net) where
    -- ---- what is dropped holds no better path: q is the rest, from h on, of a path by way of v and h
    module _ (seen : List ℕ) (v h : ℕ) (q : Route) (arc : everywhere net v h ≡ true) (rest : PathFrom (joint net) t (v ∷ seen) h q) where
      -- it is a path to the goal in each column
      in_column : (u : ℕ) → 1 ≤ u → u ≤ length net.columns → q ∈ paths net.nodes (column net u) h t
      unfolding elem
      in_column u lo hi =
          let w = column_within ok u v h (everywhere_column net v h u lo hi arc) in
          paths_complete net.nodes (column_within ok u) w.0 w.1 (rebar [] (λ x _ _. refl) (carry (λ a b. joint_column net a b u lo hi) rest))

      reached : passable net t v h ≡ true
      unfolding passable passable_in
      reached =
          all_every (passable_in net t v h) (numbers 1 (length net.columns))
          (λ u m. let b = numbers_mem 1 (length net.columns) m in rw (everywhere_column net v h u b.0 (omega arith) arc) (le-leb 1 (length (paths net.nodes (column net u) h t)) (mem_length (in_column u b.0 (omega arith)))))

      -- so it costs at least the label, and the figure is at least the outlook
      ahead_le : (u : ℕ) → 1 ≤ u → u ≤ length net.columns → ahead net s t (laid seen v) v h u ≤ deviation net s t (reverse_aux (v ∷ seen) q) u
      unfolding ahead deviation
      ahead_le u lo hi =
          let m = in_column u lo hi in
          omega (arith, cost_laid (column net u) seen v q, cost_cons (column net u) v h q (starts rest), label_reached net.nodes (column net u) h t m, best_le net.nodes (column net u) h t m)

      outlook_le : outlook net s t (laid seen v) v h ≤ figure net s t (reverse_aux (v ∷ seen) q)
      unfolding outlook
      outlook_le = largest_le (figure net s t (reverse_aux (v ∷ seen) q)) (map (ahead net s t (laid seen v) v h) (numbers 1 (length net.columns))) (λ y m. below (Memᴰ.of_map (ahead net s t (laid seen v) v h) (numbers 1 (length net.columns)) m))
        where
          below : {y : ℕ} → (u : ℕ) × (u ∈ numbers 1 (length net.columns)) × (ahead net s t (laid seen v) v h u ≡ y) → y ≤ figure net s t (reverse_aux (v ∷ seen) q)
          below (u, m, e) =
              let b = numbers_mem 1 (length net.columns) m in
              omega (arith, ahead_le u b.0 (omega arith), deviation_le_figure net s t (reverse_aux (v ∷ seen) q) u b.0 (omega arith))

      no_loss : (z : Best) → dropped net s t (laid seen v) v h z ≡ true → better (figure net s t) (reverse_aux (v ∷ seen) q) z ≡ z
      unfolding dropped hopeless
      no_loss nothing e = ⊎_elim (λ k. clash reached (not-true (passable net t v h) k)) (λ k. clash k refl) (or_cases e)
      no_loss (held p f) e = ⊎_elim (λ k. clash reached (not-true (passable net t v h) k)) (λ k. unimproved (figure net s t) (reverse_aux (v ∷ seen) q) p f (omega (arith, leb-true f (outlook net s t (laid seen v) v h) k, outlook_le))) (or_cases e)

    -- ---- so the rule finds what going through all paths finds
    -- of the routes by way of seen and v, and then of those of l
    abbrev through : List ℕ → List Route → Best → Best
    through seen l z = each (λ q. better (figure net s t) (reverse_aux seen q)) l z

    abbrev Finds : ℕ → Type 0
    Finds f = (seen : List ℕ) (v : ℕ) (z : State) → (descend f net s t seen v z).found ≡ through seen (walks f (joint net) seen v t) z.found

    module _ (f : ℕ) (ih : Finds f) (seen : List ℕ) (v : ℕ) where
      try_finds : (h : ℕ) (z : State) → everywhere net v h ≡ true → (try net s t seen v h (descend f net s t (v ∷ seen) h) z).found ≡ through seen (map (λ q. v ∷ q) (walks f (joint net) (v ∷ seen) h t)) z.found
      unfolding one_more
      try_finds h z a =
          ⊎_elim (λ d. ap (λ (y : State). y.found) (try_dropped seen v h deeper z d) ∙ sym (each_idle (λ q. better (figure net s t) (reverse_aux (v ∷ seen) q)) rest z.found (λ q m. no_loss seen v h q a (walks_sound f m) z.found d)))
          (λ d. ap (λ (y : State). y.found) (try_taken seen v h deeper z d) ∙ ih (v ∷ seen) h (one_more z))
          (split (dropped net s t (laid seen v) v h z.found))
          ∙ sym (each_map (λ q. better (figure net s t) (reverse_aux seen q)) (λ q. v ∷ q) rest z.found)
        where
          deeper : State → State
          deeper = descend f net s t (v ∷ seen) h

          rest : List Route
          rest = walks f (joint net) (v ∷ seen) h t

      try_closed : (h : ℕ) (z : State) → everywhere net v h ≡ false → (try net s t seen v h (descend f net s t (v ∷ seen) h) z).found ≡ z.found
      unfolding one_more
      try_closed h z a = ap (λ (y : State). y.found) (try_dropped seen v h (descend f net s t (v ∷ seen) h) z (closed_dropped (laid seen v) v h z.found a))

      onward_finds : (z : State) → (each (λ h. try net s t seen v h (descend f net s t (v ∷ seen) h)) (exits (drawn net) (v ∷ seen) v) z).found
          ≡ through seen (flat_map (λ h. map (λ q. v ∷ q) (walks f (joint net) (v ∷ seen) h t)) (exits (joint net) (v ∷ seen) v)) z.found
      onward_finds z =
          rw (exits_joint net (v ∷ seen) v)
          (each_parts (λ h. try net s t seen v h (descend f net s t (v ∷ seen) h)) (λ y. y.found) (everywhere net v) (λ h. map (λ q. v ∷ q) (walks f (joint net) (v ∷ seen) h t)) (λ q. better (figure net s t) (reverse_aux seen q)) try_finds try_closed (exits (drawn net) (v ∷ seen) v) z)

    descend_finds : (f : ℕ) → Finds f
    unfolding descend walks each complete laid
    descend_finds zero seen v z = refl
    descend_finds (suc f) seen v z = ⊎_elim (λ e. rw e refl) (λ e. rw e (onward_finds f (descend_finds f) seen v z)) (split (eqb v t))

    -- ---- and that is the first in node order with the least figure
    search_finds : (search net s t).found ≡ each (better (figure net s t)) (paths net.nodes (joint net) s t) nothing
    unfolding search paths
    search_finds = descend_finds net.nodes [] s fresh_state

    answers : (l : List Route) → Rising [] l → ((p : Route) → p ∈ l → OpenPath net s t p) → ((p : Route) → OpenPath net s t p → p ∈ l) → Answers net s t (each (better (figure net s t)) l nothing)
    unfolding each better
    answers [] r path listed = none_open (λ p k. elim (listed p k) [ ])
    answers (x ∷ l) r path listed =
        let w = wins (figure net s t) x l r in
        rw w.holds
        (first_open (record { is_path = path w.winner w.listed; own_figure = refl; least = λ q k. w.least q (listed q k); earliest = λ q k b. w.earliest q (listed q k) (node_order q w.winner ∙ b) }))

    -- "its answer is the first in node order of all paths with the least figure"
    pub search_answers : 1 ≤ s → s ≤ net.nodes → Answers net s t (search net s t).found
    search_answers lo hi =
        rw search_finds (answers (paths net.nodes (joint net) s t) (paths_rising net ok s t) (λ p m. joint_path net (listed_path net.nodes m)) (λ p k. path_listed net.nodes (joint_within net ok) lo hi (path_joint net ok.columns_from k)))

-- ---- "there is one exactly if such a path exists", and only one route is the answer
module _ {net : Net} {s t : ℕ} where
  pub nothing_exactly : {z : Best} → Answers net s t z
      → (z ≡ nothing → (p : Route) → OpenPath net s t p → ⊥)
      × (((p : Route) → OpenPath net s t p → ⊥) → z ≡ nothing)
  nothing_exactly (none_open h) = (λ _. h, λ _. refl)
  nothing_exactly (first_open {p} a) = (λ e q k. let z : ◌≡◌ {A = ℕ} 0 1 = cc in omega arith, λ h. absurd (h p a.is_path))

  pub found_first : {p : Route} {f : ℕ} → Answers net s t (held p f) → FirstLeast net s t p f
  found_first (first_open a) = a

  pub first_least_unique : {p q : Route} {f g : ℕ} → FirstLeast net s t p f → FirstLeast net s t q g → (p ≡ q) × (f ≡ g)
  first_least_unique {p} {q} {f} {g} a b = (before_connected [] p q (node_order p q ∙ no_earlier a b) (node_order q p ∙ no_earlier b a), omega (arith, a.least q b.is_path, b.least p a.is_path, a.own_figure, b.own_figure))
    where
      no_earlier : {p q : Route} {f g : ℕ} → FirstLeast net s t p f → FirstLeast net s t q g → lex p q ≡ false
      no_earlier {p} {q} a b = ⊎_elim (λ e. absurd (omega (arith, b.earliest p a.is_path e, a.least q b.is_path, a.own_figure, b.own_figure))) (λ e. e) (split (lex p q))

-- ---- "on one image, start and goal, it and a settled Robust must show equal figures", whatever the column and K of Robust
module _ (net : Net) (r s t K : ℕ) where
  pub settled_equal : {p q : Route} {f g w c : ℕ} → FirstLeast net s t p f → Settled (contest net r s t) K q g w c → f ≡ g
  settled_equal {p} {q} a b = omega (arith, a.least q b.is_path, a.own_figure, b.least p a.is_path, b.own_figure)

  -- so of the rule and of Robust's own definition
  pub settled_of : {q : Route} {g w c : ℕ} {a : Answer} → a ≡ settled q g w c → Demand3 net r s t K a → Settled (contest net r s t) K q g w c
  settled_of e (none h) = let z : ◌≡◌ {A = ℕ} 0 1 = cc in absurd (omega arith)
  settled_of {q} {g} {w} {c} e (closed {p} {f} {w = w'} {n} d) =
      let a : p ≡ q = cc in
      let b : f ≡ g = cc in
      let x : w' ≡ w = cc in
      let y : n ≡ c = cc in
      rw (a, b, x, y) at d
  settled_of e (unsettled d) = let z : ◌≡◌ {A = ℕ} 0 1 = cc in absurd (omega arith)

  pub search_robust : {e : ℕ} {p q : Route} {f g w c : ℕ} → Admitted e net → 1 ≤ s → s ≤ net.nodes → 1 ≤ r → r ≤ length net.columns → 1 ≤ K
      → (search net s t).found ≡ held p f → robust net r s t K ≡ settled q g w c → f ≡ g
  search_robust ok lo hi r-lo r-hi K-lo e d =
      settled_equal (found_first (rw e at (search_answers net s t ok lo hi))) (settled_of d (demand_3 net r s t ok lo hi r-lo r-hi K K-lo))
