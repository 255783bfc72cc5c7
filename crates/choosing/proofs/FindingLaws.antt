-- What the search found gives Robust's answer, and the route of its path is laid out. Assumes nothing.
use Prim.Native.Nat.{ℕ, ◌≤◌, ◌<◌}
use native.Mathlib.Omega.{arith}
use mathlib.Core.Path.{◌≡◌, refl, sym, ◌∙◌, ap}
use Rattle.std.specs.Prelude.{Option, Some, None, IfSome, IsSome}
use mathlib.Core.List.{List, ◌++◌}
use lib.ListN.{length, take, drop}
use lib.Seq.{take_all}
use Rattle.terms.specs.Paths.{Route, Path, cost}
use Rattle.terms.specs.Robust.{answer}
use Rattle.star.specs.Layout.{Holds}
use Rattle.candidates.specs.Slots.{entry_at}
use Rattle.candidates.specs.Routes.{route_at, size, Rooted}
use Rattle.candidates.proofs.LayingLaws.{all_laid}
use Rattle.candidates.proofs.RootedLaws.{rooted_fits, rooted_in, route_size}
use Rattle.candidates.specs.Views.{route_in}
use Rattle.candidates.specs.declared.laying.Routes.{Routes}
use Rattle.ranking.specs.Ranking.{Problem}
use Rattle.choosing.specs.declared.contest.Contest.{Contest}
use Rattle.choosing.specs.declared.counting.Leader.{Leader}
use Rattle.choosing.specs.Contests.{nodes_in, graph_in, ranked_in, low_in, deviation_in, figure_in, worst_in, answer_in}
use Rattle.choosing.specs.Counting.{CountingIn, Outlook, OutlookIn}
use Rattle.choosing.specs.Finding.{Decided}
use Rattle.choosing.specs.Answers.{answer_of}
use Rattle.choosing.proofs.CountingLaws.{candidate_least, counted_some, leader_rooted, leader_small, settled_end, open_end}
use Rattle.choosing.proofs.PricedLaws.{figure_in_to, low_no_less, own_cost_to, robust_is}

-- ---- a route is laid out over the beginning of a list: what lies behind it stays
pub behind_laid : (k : ℕ) (r path path' : List ℕ) → k ≡ length r → path' ≡ take k r ++ drop k path → path' ≡ take k path' ++ drop k path
behind_laid k r path path' z e = e ∙ ap (λ (l : List ℕ). l ++ drop k path) (take_all k r (omega arith) ∙ sym (all_laid k r path path' z e))

-- or over all of it
whole_laid : (k : ℕ) (r path path' : List ℕ) → k ≡ length r → length path' ≡ k → path' ≡ take k r ++ drop k path → path' ≡ r
whole_laid k r path path' z long e = sym (take_all k path' (omega arith)) ∙ all_laid k r path path' z e

-- it has nodes, and n at the most
module _ {n p len : ℕ} {w : List ℕ} (R : Rooted n w p) (is : len ≡ size (entry_at n w p)) where
  pub len_some : 1 ≤ len
  len_some = omega (arith, is, (rooted_fits n w p R).some)

  pub len_upto : len ≤ n
  len_upto = omega (arith, is, (rooted_fits n w p R).short)

  pub len_route : (s : ℕ) → len ≡ length (route_at s n w p)
  len_route s = is ∙ sym (route_size n w p R s)

-- the path at a place is laid out in a part of an array of 200
module _ (q : Routes) (p : ℕ) (inside : p < q.entries.count) {len : ℕ} (is : len ≡ size (entry_at q.entries.nodes q.entries.work.now p)) where
  pub path_room : len ≤ 200
  path_room = omega (arith, len_upto (rooted_in q p inside) is, q.entries.readable.few)

  pub path_laid : (path path' : List ℕ) → length path' ≡ len → path' ≡ take len (route_in q.start q.entries p) ++ drop len path → path' ≡ route_in q.start q.entries p
  path_laid path path' long e = whole_laid len (route_in q.start q.entries p) path path' (len_route (rooted_in q p inside) is q.start) long e

-- ---- the answer
floor_is : {n count j low figure top : ℕ} {w : List ℕ} {z : Option ℕ} → Outlook n w count j low figure z → (j < count → (entry_at n w j).cost ≤ top) → IfSome z (λ floor. floor ≤ top)
floor_is (Outlook.none_left y) h = tt
floor_is (Outlook.late y b) h = tt
floor_is (Outlook.more _ y b u) h = omega (arith, h y)

-- when j paths are counted: as many as are wanted, or fewer where the rule holds
pub decided : (x : Contest) {w : List ℕ} {count j : ℕ} {l : Leader} → CountingIn x w count j l → {z : Option ℕ} → OutlookIn x w count j l.figure z → j ≤ x.wanted → (IsSome z → x.wanted ≤ j)
    → (l.place < j) × Decided (nodes_in x) x.query.start w (answer_in x) (record { leader = l; count = j; floor = z })
decided x {w} {count} {j} {l} C {z} o upto all = (
  (C.leading.leads some).counted,
  record {
    rooted = leader_rooted H P low C some;
    answers = by_floor z o all ∙ sym (robust_is x);
    small_figure = leader_small H P low C some 199000000 (figure_in_to x);
    small_floor = floor_is o (candidate_least H P low C 199000000 (own_cost_to x));
    small_count = omega (arith, C.filled.few, x.posed.slots_are);
  },
)
  where
    H : Holds (nodes_in x) x.query.graph.star.now x.query.graph.weights.now
    H = x.query.graph.holds

    P : Problem (nodes_in x) x.query.start x.query.goal (graph_in x) x.query.labels.now
    P = x.query.posed

    low : (p : Route) → Path (graph_in x) x.query.start x.query.goal p → low_in x ≤ cost (graph_in x) p
    low = low_no_less x

    some : 1 ≤ j
    some = counted_some H P low C x.posed.some_wanted o all

    by_floor : (z : Option ℕ) → OutlookIn x w count j l.figure z → (IsSome z → x.wanted ≤ j)
        → answer_of (route_at x.query.start (nodes_in x) w l.place) l.figure l.worst j z ≡ answer (deviation_in x) (figure_in x) (worst_in x) (ranked_in x) x.wanted
    by_floor None o all = sym (settled_end H P low C some x.posed.slots_are upto o refl)
    by_floor (Some floor) o all = sym (open_end H P low C some (omega (arith, all refl)) o refl)
