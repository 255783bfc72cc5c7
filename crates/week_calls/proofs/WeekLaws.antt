-- Robust's answer as a state, and what an event comes to, case by case. Assumes nothing.
use Prim.Native.Nat.{ℕ, zero, suc, ◌+◌, ◌*◌, ◌-◌, ◌≤◌, ◌<◌}
use native.Mathlib.Omega.{arith}
use mathlib.Core.Path.{◌≡◌, refl, sym, ◌∙◌, ap, ap₂}
use mathlib.Core.Bool.{Bool, true, false, not, ◌&&◌, cond}
use mathlib.Core.List.{List, [], ◌∷◌, ◌++◌, foldr}
use Rattle.std.specs.Prelude.{Result, Ok, Err}
use lib.ListN.{length, get_or, drop, replicate, length-replicate}
use borrow.Author.Tests.{eqb-true, eq-eqb, ne_eqb, leb-false, le-leb, lt-leb}
use Rattle.terms.specs.Network.{Net, column, common}
use Rattle.terms.specs.Paths.{Route, paths}
use Rattle.terms.specs.Ranking.{insert, sort, ranked}
use Rattle.terms.specs.Regret.{deviation, figure, worst, bests}
use Rattle.terms.specs.Robust.{Answer, settled, left_open, no_path, answer, robust}
use Rattle.image.specs.Bytes.{field}
use Rattle.image.specs.Layout.{net_of}
use Rattle.image.specs.declared.check.Sizes.{Sizes}
use Rattle.image.specs.Outcome.{Fault, sound, fault, row, gives, refuses, outcome, after}
use Rattle.image.proofs.OutcomeLaws.{row_sound, outcome_fault, outcome_sound, after_fault}
use Rattle.listing.specs.Rows.{padded}
use Rattle.closures.specs.Map.{shut, turned, without}
use Rattle.closures.specs.Standing.{touches, alike, unmoved}
use Rattle.outcomes.specs.Calls.{no_path_row, chosen, robust_values}
use Rattle.loading.specs.Accepted.{Accepted}
use Rattle.loading.proofs.PartLaws.{length_to, length_is, arc_at}
use Rattle.loading.proofs.DecodeLaws.{admitted, arc_count_is}
use Rattle.outcomes.proofs.RowLaws.{ranking_sound}
use Rattle.outcomes.proofs.WorkLaws.{slots_fit}
use Rattle.network_calls.specs.Held.{no_open_path, ChoiceSlices}
use Rattle.network_calls.specs.Answers.{Decision, state_of, floor_of, decision_list}
use Rattle.image.specs.Answers as image
use Rattle.image.specs.declared.refusal.Refusal.{Refusal}
use Rattle.week_calls.specs.Weeks.{week_of, run_week, with_map, route_of, stands, turns, changed, next_week, fresh_fault, event_row, if_sound}
use Rattle.week_calls.specs.Asked.{Asked}
use Rattle.week_calls.specs.declared.week.Question.{Question}
use Rattle.week_calls.specs.Answers.{made}
use Rattle.week_calls.specs.declared.week.Week.{Week}

-- ---- the route
drop_zeros : (n k : ℕ) → drop {A = ℕ} k (replicate n 0) ≡ replicate (n - k) 0
drop_zeros n zero = let e : n ≡ n - 0 = omega arith in ap (λ i. replicate {A = ℕ} i 0) e
drop_zeros zero (suc k) = let e : 0 ≡ 0 - suc k = omega arith in ap (λ i. replicate {A = ℕ} i 0) e
drop_zeros (suc n) (suc k) = let e : n - k ≡ suc n - suc k = omega arith in drop_zeros n k ∙ ap (λ i. replicate {A = ℕ} i 0) e

-- a path over the beginning of 200 zeros
pub written : (p : Route) → after sound p (replicate 200 0) ≡ padded 200 p
unfolding padded after
written p = ap (λ l. p ++ l) (drop_zeros 200 (length p))

-- ---- where row 15 applies there is no path
empty : {A : Type 0} (l : List A) → length l ≡ 0 → l ≡ []
empty [] e = refl
empty (x ∷ l) e = absurd (omega arith)

row_holds : (n p : ℕ) (b : Bool) {number place : ℕ} → row n p b ≡ fault number place → b ≡ true
unfolding row
row_holds n p true e = refl
row_holds n p false e = let q : ◌≡◌ {A = ℕ} 0 1 = cc in absurd (omega arith)

pub none_found : (net : Net) (r s t K : ℕ) {number place : ℕ} → no_open_path net r s t ≡ fault number place → robust net r s t K ≡ no_path
unfolding no_path_row robust ranked sort answer
none_found net r s t K e =
    let none : paths net.nodes (column (common net) r) s t ≡ [] = empty _ (eqb-true _ 0 (row_holds 15 0 _ e)) in
    ap (λ l. answer (λ p. deviation net s t p r) (figure net s t) (worst net s t) (foldr (insert (column (common net) r)) [] l) K) none

-- ---- what Robust gave and wrote is its answer's state
module _ (words : List ℕ) (d : Decision) where
  -- the state, from the values of its answer
  listed : (a : Answer) → decision_list d ≡ robust_values a → made words (padded 200 (chosen a)) (Ok d) ≡ week_of words a
  unfolding robust_values chosen week_of
  listed (settled p f w n) e =
      let el : d.length ≡ length p = cc in
      let ef : d.figure ≡ f = cc in
      let ew : d.worst ≡ w = cc in
      let en : d.count ≡ n = cc in
      let es : state_of d.floor ≡ 1 = cc in
      let eb : floor_of d.floor ≡ 0 = cc in
      λ i. record { closed = words; route = padded 200 p; state = es i; length = el i; figure = ef i; worst = ew i; count = en i; floor = eb i }
  listed (left_open p f w n b) e =
      let el : d.length ≡ length p = cc in
      let ef : d.figure ≡ f = cc in
      let ew : d.worst ≡ w = cc in
      let en : d.count ≡ n = cc in
      let es : state_of d.floor ≡ 2 = cc in
      let eb : floor_of d.floor ≡ b = cc in
      λ i. record { closed = words; route = padded 200 p; state = es i; length = el i; figure = ef i; worst = ew i; count = en i; floor = eb i }
  listed no_path e = let z : ◌≡◌ {A = ℕ} 0 1 = cc in absurd (omega arith)

gave : (words : List ℕ) (r : Result Decision Refusal) (a : Answer) → image.answer decision_list r ≡ gives (robust_values a) → made words (padded 200 (chosen a)) r ≡ week_of words a
gave words (Ok d) a e = listed words d a cc
gave words (Err r) a e = let z : ◌≡◌ {A = ℕ} 0 1 = cc in absurd (omega arith)

gave_none : (words : List ℕ) (r : Result Decision Refusal) {number place : ℕ} → image.answer decision_list r ≡ refuses number place → made words (replicate 200 0) r ≡ week_of words no_path
unfolding week_of
gave_none words (Ok d) e = let z : ◌≡◌ {A = ℕ} 0 1 = cc in absurd (omega arith)
gave_none words (Err r) e = refl

pub made_is : (words : List ℕ) (d : Result Decision Refusal) (a : Answer) (f : Fault) (route : List ℕ) → ((number place : ℕ) → f ≡ fault number place → a ≡ no_path) → image.answer decision_list d ≡ outcome f (robust_values a) → route ≡ after f (chosen a) (replicate 200 0) → made words route d ≡ week_of words a
made_is words d a sound route none e w = ap (λ l. made words l d) (w ∙ written (chosen a)) ∙ gave words d a (e ∙ outcome_sound _ refl)
made_is words d a (fault number place) route none e w = ap (λ l. made words l d) (w ∙ after_fault _ _ refl) ∙ gave_none words d (e ∙ outcome_fault _ refl) ∙ ap (week_of words) (sym (none number place refl))

-- ---- when an answer stands
module _ (net : Net) (s t : ℕ) (w : Week) (new : List ℕ) (i : ℕ) where
  pub unsettled : (w.state ≡ 1 → ⊥) → stands net s t w new i ≡ false
  unfolding stands
  unsettled n = rw (ne_eqb w.state 1 n)

  module _ (e : w.state ≡ 1) where
    pub went_by : touches (get_or net.arcs i (0, 0)) (route_of w) ≡ true → stands net s t w new i ≡ false
    unfolding stands unmoved
    went_by h = rw (eq-eqb w.state 1 e, h)

    pub by_bests : touches (get_or net.arcs i (0, 0)) (route_of w) ≡ false → stands net s t w new i ≡ alike (bests (without w.closed net) s t) (bests (without new net) s t)
    unfolding stands unmoved
    by_bests h = rw (eq-eqb w.state 1 e, h)

-- ---- an event
module _ (net : Net) (r s t K : ℕ) (w : Week) (i : ℕ) (close : Bool) where
  pub change_stands : close ≡ true → stands net s t w (turned w.closed i) i ≡ true → changed net r s t K w i close ≡ with_map w (turned w.closed i)
  unfolding changed
  change_stands c h = rw (c, h)

  pub change_runs : (close && stands net s t w (turned w.closed i) i) ≡ false → changed net r s t K w i close ≡ run_week net r s t K (turned w.closed i)
  unfolding changed
  change_runs h = rw h

  pub next_same : turns w i close ≡ false → next_week net r s t K w i close ≡ w
  unfolding next_week
  next_same c = rw c

  pub next_changed : turns w i close ≡ true → next_week net r s t K w i close ≡ changed net r s t K w i close
  unfolding next_week
  next_changed c = rw c

-- the test as the code makes it
pub turns_by : (w : Week) (i : ℕ) (close : Bool) {closed : Bool} → closed ≡ shut w.closed i → cond close (not closed) closed ≡ turns w i close
unfolding turns
turns_by w i close e = ap (λ b. cond close (not b) b) e

-- no closure stands where the event opens
pub opening : {close : Bool} (b : Bool) → close ≡ false → (close && b) ≡ false
opening b e = rw e

pub moving : (close : Bool) {b : Bool} → b ≡ false → (close && b) ≡ false
moving close e = rw e (and_false close)
  where
    and_false : (c : Bool) → (c && false) ≡ false
    and_false true = refl
    and_false false = refl

-- row 20
pub wrong_arc : (net : Net) (i : ℕ) → length net.arcs ≤ i → event_row net i ≡ fault 20 i
unfolding event_row row
wrong_arc net i h = rw (le-leb (length net.arcs) i h)

pub right_arc : (net : Net) (i : ℕ) → i < length net.arcs → event_row net i ≡ sound
unfolding event_row row
right_arc net i h = rw (lt-leb (length net.arcs) i h)

pub arc_in : (net : Net) (i : ℕ) → event_row net i ≡ sound → i < length net.arcs
unfolding event_row
arc_in net i e = omega (arith, leb-false (length net.arcs) i (row_sound _ _ _ e))

-- what is made of two states
pub if_passes : {f : Fault} (w v : Week) → f ≡ sound → if_sound f w v ≡ w
unfolding if_sound
if_passes w v e = rw e

pub if_refused : {f : Fault} {number place : ℕ} (w v : Week) → f ≡ fault number place → if_sound f w v ≡ v
unfolding if_sound
if_refused w v e = rw e

-- ---- what a run is lent
pub week_slices : {b : List ℕ} {sizes : Sizes} {q : Question} {work : List ℕ} → Accepted b sizes → Asked b q work → ChoiceSlices (net_of b).nodes q.wanted (replicate 200 0) work
week_slices k a = record { wanted_from = a.wanted_from; wanted_to = a.wanted_to; path_long = omega (arith, (admitted k).nodes_to, length-replicate {A = ℕ} 200 0); slots_long = a.slots_long }

-- an arc of an accepted image stands among its bytes
pub arc_inside : {b : List ℕ} {sizes : Sizes} → Accepted b sizes → (i : ℕ) → i < sizes.m → (28 + 4 * i ≤ length b) × (length b ≤ 36024)
arc_inside {b} a i h = (omega (arith, arc_count_is a, length_is b a.passes), length_to b a.passes)

pub arc_read : {b : List ℕ} {sizes : Sizes} → Accepted b sizes → (i : ℕ) → i < sizes.m → (p : Route) {x y : ℕ} → x ≡ field 2 b (24 + 4 * i) → y ≡ field 2 b (26 + 4 * i) → touches (x, y) p ≡ touches (get_or (net_of b).arcs i (0, 0)) p
arc_read {b} a i h p e f = ap₂ (λ x y. touches (x, y) p) e f ∙ ap (λ c. touches c p) (sym (arc_at b a.passes i (omega (arith, arc_count_is a))))

-- ---- the rows
pub asked_of : {b : List ℕ} {sizes : Sizes} {work : List ℕ} (r s t K : ℕ) → Accepted b sizes → fresh_fault b r s t K (length work) ≡ sound → Asked b (record { column = r; start = s; goal = t; wanted = K }) work
unfolding fresh_fault
asked_of {b} {work = work} r s t K a e =
    let k = ranking_sound b r s t K (length work) e in
    record { in_column = record { from = k.search.from; upto = k.search.upto }; ends = k.search.ends; wanted_from = k.wanted_from; wanted_to = k.wanted_to; slots_long = slots_fit (net_of b).nodes K (length work) k.work_long }
