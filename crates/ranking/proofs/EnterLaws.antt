-- One branch is looked into: its first path is put in its place, or it is left out. Assumes nothing.
use Prim.Native.Nat.{ℕ, ◌+◌, ◌-◌, ◌≤◌, ◌<◌}
use native.Mathlib.Omega.{arith}
use mathlib.Core.Path.{◌≡◌, refl, sym, ◌∙◌, ap, subst, subst₂}
use mathlib.Core.Bool.{Bool, true}
use mathlib.Core.List.{List, [], ◌∷◌, ◌++◌, tail}
use lib.ListN.{length, take, drop, get_or, length-take, length-drop}
use lib.Seq.{take-take, take_all, take-add, take-append-le, get_or-take, get_or-drop}
use Rattle.terms.specs.Network.{Graph}
use Rattle.terms.specs.Lists.{◌∈◌, elem}
use Rattle.terms.specs.Paths.{Route, Path, cost}
use Rattle.terms.proofs.ListLaws.{clash, get_or_mem}
use Rattle.terms.proofs.PathLaws.{Within, node_within, of_path, at_most_nodes}
use Rattle.terms.proofs.RankingLaws.{NoLater}
use Rattle.star.specs.Arcs.{heaviest}
use Rattle.star.specs.Layout.{graph_of, Holds}
use Rattle.star.proofs.ArcLaws.{linked_at, at_weight, graph_within, path_cost_le}
use Rattle.candidates.specs.Slots.{Entry, none, entries}
use Rattle.candidates.specs.Keeping.{inserted, put_in, Inserted}
use Rattle.candidates.specs.Routes.{beginning, route, routes, Fits}
use Rattle.candidates.specs.Bars.{barred}
use Rattle.candidates.specs.Placing.{Placed}
use Rattle.branching.specs.Branches.{Branch, branch, In, First}
use Rattle.exits.specs.Exits.{Unmarked}
use Rattle.branching.specs.Found.{Ahead, Kept}
use Rattle.branching.specs.declared.first.Tail.{Tail}
use Rattle.std.specs.Prelude.{Option}
use Rattle.ranking.specs.Pool.{Candidate}
use Rattle.ranking.specs.Ranking.{Problem, Filled, Deviation, Restored, Changed, Settled, TooDear}
use Rattle.exits.specs.Small.{longest}
use Rattle.ranking.specs.State.{branch_of, Beyond, Entered, Searching, taking_over}
use Rattle.exits.specs.Walks.{Consistent, Exit, Choice}
use Rattle.branching.proofs.FirstLaws.{branch_empty, branch_floor}
use Rattle.ranking.proofs.SearchLaws.{none_found, all_lost, too_dear}
use Rattle.ranking.proofs.StateLaws.{entry_cost, length_done, length_candidates, last_candidate, entered_put, ranked_kept, search_put}
use Rattle.branching.proofs.WalkLaws.{consistent_more}

-- a new last entry falls out of a full house at once
put_in_full : {A : Type 0} (M : ℕ) (x : A) (l : List A) → length l ≡ M → put_in M M x l ≡ l
unfolding put_in inserted
put_in_full M x l e = take-append-le M (take M l) (x ∷ drop M l) (omega (arith, length-take M l)) ∙ take-take M M l (omega arith) ∙ take_all M l (omega arith)

-- ---- the entry of a path that was found for the branch
abbrev pub newcomer : ℕ → ℕ → ℕ → List ℕ → Entry
newcomer c d parent tail = record { cost = c; shared = d; parent = parent; tail = tail }

pub dear_facts : {M count bound : ℕ} {E : List Entry} {b : Bool} → TooDear M count E bound b → b ≡ true → (count ≡ M) × ((get_or E (M - 1) none).cost < bound)
dear_facts {E = E} (TooDear.dear e h) t = (e, let z = ap (λ k. (get_or E (k - 1) none).cost) e in omega arith)
dear_facts TooDear.cheap t = clash t refl

-- ---- flags and path after the search of a branch
pub restored : {used used' : List Bool} {path path' : List ℕ} {d : ℕ} {r : Option Tail} → Kept used path d used' path' r → Restored used path d used' path'
restored K = record { flags = K.flags; kept = K.kept }

-- ---- the workspace
module _ {n M : ℕ} {g : Graph} {s j : ℕ} {w : List ℕ} {count : ℕ} (F : Filled n M g s j w count) where
  pub unchanged : Changed n M g s j w count w count
  unchanged = record { kept = F.kept; entered = F.entered; ranked_same = refl; beyond = refl }

-- ---- nodes of paths
module _ {n s t : ℕ} {star ws overall : List ℕ} (H : Holds n star ws) (P : Problem n s t (graph_of star ws) overall) where
  pub problem_within : Within n (graph_of star ws)
  unfolding graph_of
  problem_within = graph_within H.arcs

  pub path_short : {p : Route} → Path (graph_of star ws) s t p → length p ≤ n
  path_short r = at_most_nodes problem_within P.start_from P.start_to (of_path r)

  pub path_nodes : {p : Route} {x : ℕ} → Path (graph_of star ws) s t p → x ∈ p → (1 ≤ x) × (x ≤ n)
  path_nodes r m = node_within problem_within P.start_from P.start_to r m

  pub path_small : {p : Route} → Path (graph_of star ws) s t p → cost (graph_of star ws) p ≤ longest
  unfolding graph_of
  path_small r = path_cost_le H.arcs heaviest H.arcs.light r

  -- weight and label of an exit can be added to the cost of a beginning
  pub choice_small : {used bars : List Bool} {v l y : ℕ} → Choice (graph_of star ws) overall (Unmarked used bars) v l y → l ≤ longest + heaviest
  unfolding graph_of
  choice_small {v} {y} c =
      let a = linked_at H.arcs v y c.exit.arc in
      omega (arith, c.attains, P.small.low y c.exit.reached, at_weight H.arcs a.1, H.arcs.light a.0 a.1.below)

  -- ---- the branch of a beginning that is laid out
  module _ {E : List Entry} {j : ℕ} {used bars : List Bool} {path : List ℕ} {parent d before : ℕ} (D : Deviation n (graph_of star ws) s t E j used bars path parent d before) where
    abbrev g : Graph
    g = graph_of star ws

    abbrev β : Branch
    β = branch_of s E (taking_over d parent)

    pub branch_is : branch (take d path) (barred E (taking_over d parent)) ≡ β
    unfolding branch_of
    branch_is = ap (λ q. branch q (barred E (taking_over d parent))) D.taken

    pub still_consistent : Consistent g t overall (take d path)
    unfolding elem
    still_consistent = consistent_more (take d path) (λ x e. refl) P.consistent

    pub goal_ahead : Ahead (n + 1) t used
    goal_ahead = record { place = omega (arith, P.goal_to); unmet = D.begun.laid.flagged.outside t D.begins.short_of_goal }

    -- no path of the branch costs less than its least exit promises
    pub choice_floor : {l y : ℕ} → Choice g overall (Unmarked used bars) (get_or path (d - 1) 0) l y → (p : Route) → In g s t (branch (take d path) (barred E (taking_over d parent))) p → cost g (take d path) + l ≤ cost g p
    choice_floor ch = branch_floor D.begun D.flagged D.begins ch still_consistent

    -- ---- left out
    module _ (M limit : ℕ) (T : Entered n g s E j) where
      pub settled_empty : ((p : Route) → In g s t (branch (take d path) (barred E (taking_over d parent))) p → ⊥) → Settled n g s t M limit E j β E
      settled_empty none = record { goes_on = λ waiting S. none_found n g s t problem_within P.start_from P.start_to M (Beyond g limit) S (rw branch_is at none) }

      pub settled_none : ((z : ℕ) → Exit g overall (Unmarked used bars) (get_or path (d - 1) 0) z → ⊥) → Settled n g s t M limit E j β E
      settled_none none = settled_empty (branch_empty D.begun D.flagged D.begins still_consistent none)

      -- each of its paths costs at least l more than the beginning
      module _ (l : ℕ) (low : (p : Route) → In g s t (branch (take d path) (barred E (taking_over d parent))) p → cost g (take d path) + l ≤ cost g p) where
        floor : (p : Route) → In g s t β p → before + l ≤ cost g p
        floor p i = omega (arith, D.costs, low p (subst (λ γ. In g s t γ p) (sym branch_is) i))

        pub settled_beyond : limit ≤ before + l → Settled n g s t M limit E j β E
        settled_beyond h = record { goes_on = λ waiting S. all_lost n g s t problem_within P.start_from P.start_to M (Beyond g limit) S (λ p i. omega (arith, floor p i)) }

        pub settled_dear : length E ≡ M → 1 ≤ M → (get_or E (M - 1) none).cost < before + l → Settled n g s t M limit E j β E
        settled_dear full some h = record {
          goes_on = λ waiting S. too_dear n g s t problem_within P.start_from P.start_to M (Beyond g limit) S last
              (omega (arith, length_done T, length_candidates T, T.border)) (λ c m. subst (λ k. NoLater g c.route (get_or (routes s E) (k - 1) [])) full (last_candidate T S.order c m)) (λ p i. omega (arith, floor p i, entry_cost T (M - 1)));
        }
          where
            last : Candidate Branch
            last = record { route = get_or (routes s E) (M - 1) []; part = β }

    -- ---- its first path
    module _ (path' : List ℕ) (len : ℕ) (kept : take d path' ≡ take d path) (lo : d < len) (hi : len ≤ length path') where
      abbrev rest : List ℕ
      rest = take (len - d) (drop d path')

      whole : take len path' ≡ take d path ++ rest
      whole = let z : len ≡ d + (len - d) = omega arith in ap (λ k. take k path') z ∙ take-add d (len - d) path' ∙ ap (λ l. l ++ rest) kept

      route_is : (c : ℕ) → route s (routes s E) (newcomer c d parent rest) ≡ take len path'
      unfolding route beginning
      route_is c = ap (λ l. l ++ rest) (sym D.taken) ∙ sym whole

      rest_long : length rest ≡ len - d
      rest_long = omega (arith, length-take (len - d) (drop d path'), length-drop d path')

      fits_new : (c : ℕ) → Path g s t (take len path') → Fits n E j (newcomer c d parent rest)
      fits_new c r = record {
        some = D.fits.some;
        short = omega (arith, rest_long, path_short r, length-take len path');
        nodes = λ i b. (path_nodes r (subst (λ x. x ∈ take len path') (get_or-take len path' (d + i) 0 (omega (arith, rest_long)) ∙ sym (get_or-drop d path' i 0) ∙ sym (get_or-take (len - d) (drop d path') i 0 (omega (arith, rest_long)))) (get_or_mem (take len path') 0 (d + i) (omega (arith, rest_long, length-take len path'))))).1;
        from_start = D.fits.from_start;
        known = D.fits.known;
        leaves = D.fits.leaves;
        leaves_inside = D.fits.leaves_inside;
      }

      pub rest_short : Path g s t (take len path') → length rest ≤ n
      rest_short r = omega (arith, (fits_new 0 r).short)

      -- it is put in at its place
      module _ (r c : ℕ) (f : First g s t (branch (take d path) (barred E (taking_over d parent))) (take len path')) (z : cost g (take len path') ≡ cost g (take d path) + r) (e : c ≡ before + r) where
        abbrev entry : Entry
        entry = newcomer c d parent rest

        cost_is : c ≡ cost g (route s (routes s E) entry)
        cost_is = let y : c ≡ cost g (take len path') = omega (arith, D.costs) in y ∙ ap (cost g) (sym (route_is c))

        first_is : First g s t (branch_of s E entry) (route s (routes s E) entry)
        unfolding branch_of beginning barred
        first_is = subst₂ (λ γ p. First g s t γ p) branch_is (sym (route_is c)) f

        same_branch : branch_of s E entry ≡ β
        unfolding branch_of beginning barred
        same_branch = refl

        module _ (M place : ℕ) (T : Entered n g s E j) (at : Placed s E j c (take len path') place) where
          placed_is : Placed s E j c (route s (routes s E) entry) place
          placed_is = subst (λ p. Placed s E j c p place) (sym (route_is c)) at

          pub settled_found : (limit : ℕ) → Settled n g s t M limit E j β (put_in M place entry E)
          settled_found limit = record {
            goes_on = λ waiting S. search_put problem_within P.start_from P.start_to T place entry cost_is placed_is (fits_new c f.member.path) first_is (subst (λ γ. Searching n g s t M limit E j (γ ∷ waiting)) (sym same_branch) S);
          }

          pub entered_found : j ≤ M → Entered n g s (put_in M place entry E) j
          entered_found room = entered_put T M place entry at.lower at.upper room (fits_new c f.member.path) cost_is

          pub same_found : j ≤ M → take j (put_in M place entry E) ≡ take j E
          same_found room = ranked_kept T M place entry at.lower at.upper room (fits_new c f.member.path)

          -- where it falls out at once
          pub settled_out : place ≡ M → length E ≤ M → (limit : ℕ) → Settled n g s t M limit E j β E
          settled_out z h limit = subst (λ l. Settled n g s t M limit E j β l) (ap (λ k. put_in M k entry E) z ∙ put_in_full M entry E (omega (arith, at.upper))) (settled_found limit)

-- an entry was put into the workspace
module _ {n M : ℕ} {g : Graph} {s j : ℕ} {place count count' : ℕ} {e : Entry} {w w' : List ℕ} (I : Inserted n M place e w count w' count') where
  pub changed_put : Entered n g s (put_in M place e (entries n w count)) j → take j (put_in M place e (entries n w count)) ≡ take j (entries n w count) → Changed n M g s j w count w' count'
  changed_put T same = record { kept = I.kept; entered = rw I.all T; ranked_same = ap (take j) I.all ∙ same; beyond = I.beyond }

  pub settled_put : {t limit : ℕ} {β : Branch} → Settled n g s t M limit (entries n w count) j β (put_in M place e (entries n w count)) → Settled n g s t M limit (entries n w count) j β (entries n w' count')
  settled_put S = rw I.all S
