-- After every list of events the state shows what Robust says of the image without the closed arcs. Assumes nothing.
use Prim.Native.Nat.{ℕ, ◌-◌, ◌/◌, ◌≤◌, ◌<◌, min}
use native.Mathlib.Omega.{arith}
use mathlib.Core.Path.{◌≡◌, refl, sym, ◌∙◌, ap, ap₂, subst}
use mathlib.Core.Bool.{Bool, true, false, not, ◌&&◌, cond}
use mathlib.Core.Logic.{⊎_elim}
use mathlib.Core.List.{List, [], ◌∷◌, ◌++◌}
use lib.Dec.{eqb}
use lib.ListN.{length, take, replicate, length-replicate}
use lib.Seq.{take_at}
use borrow.Author.Tests.{eqb-true, not-true}
use Rattle.terms.specs.Network.{Net, Admitted}
use Rattle.terms.specs.Paths.{Route}
use Rattle.terms.specs.Demand3.{Demand3}
use Rattle.terms.specs.Robust.{Answer, settled, left_open, no_path, robust}
use Rattle.terms.proofs.ListLaws.{split, and_both}
use Rattle.terms.proofs.PathLaws.{column_within, at_most_nodes, of_path}
use Rattle.image.specs.Outcome.{Fault, sound, fault}
use Rattle.image.specs.Layout.{edition, net_of}
use Rattle.image.proofs.NetworkLaws.{accepted_network}
use Rattle.image.proofs.OutcomeLaws.{then_sound}
use Rattle.listing.specs.Rows.{padded}
use Rattle.closures.specs.Map.{shut, turned, without}
use Rattle.closures.specs.Standing.{unmoved}
use Rattle.closures.proofs.MapLaws.{turn_length}
use Rattle.closures.proofs.WithoutLaws.{without_fresh, without_nodes, without_columns, without_admitted}
use Rattle.closures.proofs.StandsLaws.{settled_demand}
use Rattle.closures.proofs.ClosureLaws.{run_demand, closure_stands}
use Rattle.outcomes.proofs.RowLaws.{RankingSound, ranking_sound}
use Rattle.week_calls.specs.Weeks.{week_of, run_week, with_map, route_of, stands, turns, next_week, fresh_fault, fresh_week, event_row, event_fault, event_week}
use Rattle.week_calls.specs.Promise.{Event, Course, passes, reruns, follow, after_events, uncounted, Shows, KeptWeek}
use Rattle.week_calls.specs.declared.week.Week.{Week}
use Rattle.week_calls.proofs.WeekLaws.{change_stands, change_runs, next_same, next_changed, arc_in, if_passes, if_refused}

-- ---- an answer without its count
shown : Answer → Answer
shown (settled p f w n) = settled p f w 0
shown (left_open p f w n b) = left_open p f w 0 b
shown no_path = no_path

uncounted_is : (words : List ℕ) (a : Answer) → uncounted (week_of words a) ≡ week_of words (shown a)
unfolding uncounted week_of shown
uncounted_is words (settled p f w n) = refl
uncounted_is words (left_open p f w n b) = refl
uncounted_is words no_path = refl

shown_settled : (a : Answer) (p : Route) (f w n : ℕ) → shown (settled p f w n) ≡ shown a → (m : ℕ) × (a ≡ settled p f w m)
unfolding shown
shown_settled (settled p' f' w' n') p f w n e =
    let ep : p' ≡ p = cc in
    let ef : f' ≡ f = cc in
    let ew : w' ≡ w = cc in
    (n', λ i. settled (ep i) (ef i) (ew i) n')
shown_settled (left_open p' f' w' n' b') p f w n e = let z : ◌≡◌ {A = ℕ} 0 1 = cc in absurd (omega arith)
shown_settled no_path p f w n e = let z : ◌≡◌ {A = ℕ} 0 1 = cc in absurd (omega arith)

recounted : (p : Route) (f w n m : ℕ) → shown (settled p f w n) ≡ shown (settled p f w m)
unfolding shown
recounted p f w n m = refl

-- ---- a state that holds an answer
moved : (words new : List ℕ) (a : Answer) → with_map (week_of words a) new ≡ week_of new a
unfolding with_map week_of
moved words new (settled p f w n) = refl
moved words new (left_open p f w n b) = refl
moved words new no_path = refl

closed_of : (words : List ℕ) (a : Answer) → (week_of words a).closed ≡ words
unfolding week_of
closed_of words (settled p f w n) = refl
closed_of words (left_open p f w n b) = refl
closed_of words no_path = refl

-- its route, which has at most 200 nodes
route_held : (words : List ℕ) (p : Route) (f w n : ℕ) → length p ≤ 200 → route_of (week_of words (settled p f w n)) ≡ p
unfolding route_of week_of padded
route_held words p f w n h = let e : min (length p) 200 ≡ length p = omega arith in ap (λ k. take k (p ++ replicate (200 - length p) 0)) e ∙ take_at p (replicate (200 - length p) 0) (length p) refl

data Settles : Answer → Type 0 where
  settles : {p : Route} {f w n : ℕ} → Settles (settled p f w n)

settled_state : (words : List ℕ) (a : Answer) → (week_of words a).state ≡ 1 → Settles a
unfolding week_of
settled_state words (settled p f w n) e = settles
settled_state words (left_open p f w n b) e = absurd (omega arith)
settled_state words no_path e = absurd (omega arith)

-- ---- from event to event
-- the map has sixteen words, and the state holds the answer of the last full run, which shows Robust's
record Holds (net : Net) (r s t K : ℕ) (now : Course) : Type 0 where
  pub sixteen : length now.week.closed ≡ 16
  pub holds : now.week ≡ week_of now.week.closed (robust (without now.ran net) r s t K)
  pub same : shown (robust (without now.ran net) r s t K) ≡ shown (robust (without now.week.closed net) r s t K)

shows_of : {net : Net} {r s t K : ℕ} {now : Course} → Holds net r s t K now → Shows net r s t K now
unfolding run_week week_of
shows_of {net} {r} {s} {t} {K} {now} h = record {
  shows = ap uncounted h.holds ∙ uncounted_is now.week.closed (robust (without now.ran net) r s t K) ∙ ap (week_of now.week.closed) h.same ∙ sym (uncounted_is now.week.closed (robust (without now.week.closed net) r s t K));
  count_is = ap (λ w. w.count) h.holds ∙ counts (robust (without now.ran net) r s t K);
}
  where
    counts : (a : Answer) → (week_of now.week.closed a).count ≡ (week_of now.ran a).count
    counts (settled p f w n) = refl
    counts (left_open p f w n b) = refl
    counts no_path = refl

module _ (b : List ℕ) (r s t K work : ℕ) (sound-now : RankingSound b r s t K work) where
  abbrev net : Net
  net = net_of b

  ok : Admitted (edition b) net
  ok = accepted_network b sound-now.search.accepted

  s_lo : 1 ≤ s
  s_lo = sound-now.search.ends.start_in.from

  s_hi : s ≤ net.nodes
  s_hi = sound-now.search.ends.start_in.upto

  -- a full run keeps demand 3, and its route is a path
  pub demand : (words : List ℕ) → Demand3 (without words net) r s t K (robust (without words net) r s t K)
  demand words = run_demand ok r s t K s_lo s_hi sound-now.search.from sound-now.search.upto sound-now.wanted_from words

  short : (words : List ℕ) {p : Route} {f w n : ℕ} → robust (without words net) r s t K ≡ settled p f w n → length p ≤ 200
  short words e =
      let path = (settled_demand (demand words) e).is_path.in_column r sound-now.search.from (omega (arith, sound-now.search.upto, without_columns words net)) in
      omega (arith, at_most_nodes (column_within (without_admitted ok words) r) s_lo (omega (arith, s_hi, without_nodes words net)) (of_path path), without_nodes words net, ok.nodes_to)

  -- the answer stands when arc i is closed
  module _ {now : Course} (h : Holds net r s t K now) (i : ℕ) (inside : i < length net.arcs) where
    abbrev words : List ℕ
    words = now.week.closed

    abbrev new : List ℕ
    new = turned words i

    in_map : i / 64 < length words
    in_map = omega (arith, inside, ok.arcs_to, h.sixteen)

    new_long : length new ≡ 16
    new_long = turn_length words i in_map ∙ h.sixteen

    -- a full run
    holds_run : Holds net r s t K (record { week = run_week net r s t K new; ran = new })
    unfolding run_week
    holds_run =
        let map_is = closed_of new (robust (without new net) r s t K) in
        record { sixteen = ap length map_is ∙ new_long; holds = ap (λ l. week_of l (robust (without new net) r s t K)) (sym map_is); same = ap (λ l. shown (robust (without l net) r s t K)) (sym map_is) }

    -- a closure at which the answer stands
    module _ (was_open : shut now.week.closed i ≡ false) where
      still : stands net s t now.week new i ≡ true → shown (robust (without now.ran net) r s t K) ≡ shown (robust (without new net) r s t K)
      unfolding stands
      still e =
          let both = and_both (eqb now.week.state 1) (unmoved net s t words new i (route_of now.week)) e in
          by_answer (robust (without now.ran net) r s t K) refl (settled_state words _ (sym (ap (λ w. w.state) h.holds) ∙ eqb-true now.week.state 1 both.0)) both.1
        where
          by_answer : (a : Answer) → robust (without now.ran net) r s t K ≡ a → Settles a → unmoved net s t words new i (route_of now.week) ≡ true → shown (robust (without now.ran net) r s t K) ≡ shown (robust (without new net) r s t K)
          by_answer (settled p f w n) e settles free =
              let run = shown_settled (robust (without words net) r s t K) p f w n (ap shown (sym e) ∙ h.same) in
              let route : route_of now.week ≡ p = ap route_of (h.holds ∙ ap (week_of words) e) ∙ route_held words p f w n (short now.ran e) in
              let kept = closure_stands ok r s t K s_lo s_hi sound-now.search.from sound-now.search.upto sound-now.wanted_from words i in_map was_open run.1 (sym (ap (unmoved net s t words new i) route) ∙ free) in
              ap shown e ∙ recounted p f w n kept.0 ∙ sym (ap shown kept.1)
          by_answer (left_open _ _ _ _ _) e x free = elim x [ ]
          by_answer no_path e x free = elim x [ ]

      holds_standing : stands net s t now.week new i ≡ true → Holds net r s t K (record { week = with_map now.week new; ran = now.ran })
      unfolding with_map
      holds_standing e = record { sixteen = new_long; holds = ap (λ w. with_map w new) h.holds ∙ moved words new (robust (without now.ran net) r s t K); same = still e }

  -- each event
  module _ {now : Course} (h : Holds net r s t K now) (e : Event) where
    abbrev new_map : List ℕ
    new_map = turned now.week.closed e.arc

    abbrev kept : Bool
    kept = e.close && stands net s t now.week new_map e.arc

    to_be : {w : Week} {ran : List ℕ} → event_week b r s t K e.room now.week e.arc e.close ≡ w → cond (reruns b r s t K now.week e) new_map now.ran ≡ ran → Holds net r s t K (record { week = w; ran = ran }) → Holds net r s t K (follow b r s t K now e)
    unfolding follow
    to_be {w} {ran} week_is ran_is g = subst (λ c. Holds net r s t K c) (λ i. record { week = sym week_is i; ran = sym ran_is i }) g

    -- where the event closes an arc, that was open
    closes : turns now.week e.arc e.close ≡ true → e.close ≡ true → shut now.week.closed e.arc ≡ false
    unfolding turns
    closes c k = not-true _ (sym (ap (λ b. cond b (not (shut now.week.closed e.arc)) (shut now.week.closed e.arc)) k) ∙ c)

    module _ (is : event_fault b r s t K e.room e.arc ≡ sound) where
      inside : e.arc < length net.arcs
      unfolding event_fault
      inside = arc_in net e.arc (then_sound (fresh_fault b r s t K e.room) (event_row net e.arc) is).1

      week_is : event_week b r s t K e.room now.week e.arc e.close ≡ next_week net r s t K now.week e.arc e.close
      unfolding event_week
      week_is = if_passes (next_week net r s t K now.week e.arc e.close) now.week is

      ran_is : (c : Bool) → turns now.week e.arc e.close ≡ c → (k : Bool) → kept ≡ k → cond (reruns b r s t K now.week e) new_map now.ran ≡ cond (c && not k) new_map now.ran
      unfolding reruns passes
      ran_is c ce k ke = rw (is, ce, ke)

      follows : Holds net r s t K (follow b r s t K now e)
      follows =
          ⊎_elim (λ c. ⊎_elim (λ k. let both = and_both e.close (stands net s t now.week new_map e.arc) k in
          to_be (week_is ∙ next_changed net r s t K now.week e.arc e.close c ∙ change_stands net r s t K now.week e.arc e.close both.0 both.1) (ran_is true c true k) (holds_standing h e.arc inside (closes c both.0) both.1))
          (λ k. to_be (week_is ∙ next_changed net r s t K now.week e.arc e.close c ∙ change_runs net r s t K now.week e.arc e.close k) (ran_is true c false k) (holds_run h e.arc inside)) (split kept))
          (λ c. to_be (week_is ∙ next_same net r s t K now.week e.arc e.close c) (ran_is false c kept refl) h) (split (turns now.week e.arc e.close))

    by_fault : (f : Fault) → event_fault b r s t K e.room e.arc ≡ f → Holds net r s t K (follow b r s t K now e)
    unfolding event_week reruns passes
    by_fault (fault number place) is = to_be (if_refused _ now.week is) (rw is) h
    by_fault sound is = follows is

  -- every list of events
  holds_after : {now : Course} → Holds net r s t K now → (events : List Event) → Holds net r s t K (after_events b r s t K now events)
  unfolding after_events
  holds_after {now = now} h [] = h
  holds_after {now = now} h (e ∷ es) = holds_after {now = follow b r s t K now e} (by_fault h e (event_fault b r s t K e.room e.arc) refl) es

  -- a fresh map
  holds_fresh : Holds net r s t K (record { week = week_of (replicate 16 0) (robust net r s t K); ran = replicate 16 0 })
  holds_fresh =
      let map_is = closed_of (replicate 16 0) (robust net r s t K) in
      let whole = without_fresh net in
      record {
        sixteen = ap length map_is ∙ length-replicate {A = ℕ} 16 0;
        holds = ap₂ week_of (sym map_is) (ap (λ x. robust x r s t K) (sym whole));
        same = ap (λ l. shown (robust (without l net) r s t K)) (sym map_is);
      }

-- so the promise is kept
pub kept_week : (b : List ℕ) (r s t K work : ℕ) → KeptWeek b r s t K work
unfolding fresh_fault fresh_week
kept_week b r s t K work = record {
  current = λ e events. let k = ranking_sound b r s t K work e in
      shows_of (holds_after b r s t K work k (subst (λ w. Holds (net_of b) r s t K (record { week = w; ran = replicate 16 0 })) (sym (if_passes _ _ e)) (holds_fresh b r s t K work k)) events);
  demand = λ e words. demand b r s t K work (ranking_sound b r s t K work e) words;
}
