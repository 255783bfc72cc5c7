-- docs/REFERENCE.md, sections 4.12 and 4.13: the state of a week, what Fresh and Event come to, for every image, state, number and length of
-- the workspace. Assumes nothing.
use Rattle.std.specs.Prelude.{ℕ, min, Bool, not, ◌&&◌, cond, List, [], ◌∷◌, leb, eqb, length, take, replicate}
use Rattle.terms.specs.Network.{Net}
use Rattle.terms.specs.Paths.{Route}
use Rattle.terms.specs.Robust.{Answer, settled, left_open, no_path, robust}
use Rattle.image.specs.Outcome.{Fault, sound, fault, row, ◌then◌, Outcome, outcome}
use Rattle.image.specs.Layout.{net_of}
use Rattle.listing.specs.Rows.{padded}
use Rattle.closures.specs.Map.{shut, turned, without, closed_roads}
use Rattle.closures.specs.Standing.{unmoved}
use Rattle.outcomes.specs.Calls.{ranking_rows}
use Rattle.week_calls.specs.declared.week.Week.{Week}

-- ---- the state
-- Robust's answer with a map of closed arcs: the route, then 0 in the other places; "15 included"
unfoldable pub week_of : List ℕ → Answer → Week
week_of words (settled p f w n) = record { closed = words; route = padded 200 p; state = 1; length = length p; figure = f; worst = w; count = n; floor = 0 }
week_of words (left_open p f w n b) = record { closed = words; route = padded 200 p; state = 2; length = length p; figure = f; worst = w; count = n; floor = b }
week_of words no_path = record { closed = words; route = replicate 200 0; state = 15; length = 0; figure = 0; worst = 0; count = 0; floor = 0 }

-- the route of a state: "read as it is, its length capped at 200"
unfoldable pub route_of : Week → Route
route_of w = take (min w.length 200) w.route

-- a state with another map, and all else as it was
unfoldable pub with_map : Week → List ℕ → Week
with_map w words = record { closed = words; route = w.route; state = w.state; length = w.length; figure = w.figure; worst = w.worst; count = w.count; floor = w.floor }

-- ---- an event
-- "if the current answer is settled, and a closure neither touches its route nor changes any column's best, the answer stands":
-- arc i is closed, which makes the map `new`
unfoldable pub stands : Net → ℕ → ℕ → Week → List ℕ → ℕ → Bool
stands net s t w new i = eqb w.state 1 && unmoved net s t w.closed new i (route_of w)

-- "Robust is run again" with this map
unfoldable pub run_week : Net → ℕ → ℕ → ℕ → ℕ → List ℕ → Week
run_week net r s t K words = week_of words (robust (without words net) r s t K)

-- "closing a closed arc or opening an open one changes nothing": does the event turn the arc's bit over
unfoldable pub turns : Week → ℕ → Bool → Bool
turns w i close = cond close (not (shut w.closed i)) (shut w.closed i)

-- the state after an event that does
unfoldable pub changed : Net → ℕ → ℕ → ℕ → ℕ → Week → ℕ → Bool → Week
changed net r s t K w i close =
    let new = turned w.closed i in
    let standing = with_map w new in
    let again = run_week net r s t K new in
    cond (close && stands net s t w new i) standing again

-- the state after any event on one of the m arcs
unfoldable pub next_week : Net → ℕ → ℕ → ℕ → ℕ → Week → ℕ → Bool → Week
next_week net r s t K w i close = let new = changed net r s t K w i close in cond (turns w i close) new w

-- ---- Fresh: "a fresh map is all open and holds Robust's answer"
-- Robust's rows up to 13, for a workspace of this length
unfoldable pub fresh_fault : List ℕ → ℕ → ℕ → ℕ → ℕ → ℕ → Fault
fresh_fault b r s t K work = ranking_rows b r s t K work

-- a state that holds nothing, which stands beside a refusal
unfoldable pub no_week : Week
no_week = record { closed = replicate 16 0; route = replicate 200 0; state = 0; length = 0; figure = 0; worst = 0; count = 0; floor = 0 }

-- what is made of two states: the first if no row applies
unfoldable pub if_sound : Fault → Week → Week → Week
if_sound sound w v = w
if_sound (fault number place) w v = v

unfoldable pub fresh_week : List ℕ → ℕ → ℕ → ℕ → ℕ → ℕ → Week
fresh_week b r s t K work = if_sound (fresh_fault b r s t K work) (week_of (replicate 16 0) (robust (net_of b) r s t K)) no_week

-- the number of closed roads
unfoldable pub fresh_outcome : List ℕ → ℕ → ℕ → ℕ → ℕ → ℕ → Outcome
fresh_outcome b r s t K work = outcome (fresh_fault b r s t K work) (0 ∷ [])

-- ---- Event
-- row 20: the arc index is m or more, with the index as place
unfoldable pub event_row : Net → ℕ → Fault
event_row net i = row 20 i (leb (length net.arcs) i)

unfoldable pub event_fault : List ℕ → ℕ → ℕ → ℕ → ℕ → ℕ → ℕ → Fault
event_fault b r s t K work i = fresh_fault b r s t K work then event_row (net_of b) i

-- a refusal leaves the state as it was
unfoldable pub event_week : List ℕ → ℕ → ℕ → ℕ → ℕ → ℕ → Week → ℕ → Bool → Week
event_week b r s t K work w i close = if_sound (event_fault b r s t K work i) (next_week (net_of b) r s t K w i close) w

-- the number of closed roads of the state after it
unfoldable pub event_outcome : List ℕ → ℕ → ℕ → ℕ → ℕ → ℕ → Week → ℕ → Bool → Outcome
event_outcome b r s t K work w i close = outcome (event_fault b r s t K work i) (closed_roads (event_week b r s t K work w i close).closed (length (net_of b).arcs) ∷ [])
