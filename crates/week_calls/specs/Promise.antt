-- docs/REFERENCE.md, section 9.5: after every list of events from a fresh map the state shows what Robust says of the image without the
-- closed arcs. Assumes nothing.
use Rattle.std.specs.Prelude.{ℕ, ◌≡◌, Bool, true, false, not, ◌&&◌, cond, List, [], ◌∷◌, replicate}
use Rattle.terms.specs.Network.{Net}
use Rattle.terms.specs.Robust.{robust}
use Rattle.terms.specs.Demand3.{Demand3}
use Rattle.image.specs.Outcome.{Fault, sound, fault}
use Rattle.image.specs.Layout.{net_of}
use Rattle.closures.specs.Map.{turned, without}
use Rattle.week_calls.specs.Weeks.{run_week, stands, turns, fresh_fault, fresh_week, event_fault, event_week}
use Rattle.week_calls.specs.declared.week.Week.{Week}

-- ---- a list of events
-- an event: an arc's index, whether it is closed or opened, and the length of the workspace that is lent
pub record Event : Type 0 where
  pub arc : ℕ
  pub close : Bool
  pub room : ℕ

-- a state, and the map of the last full run
pub record Course : Type 0 where
  pub week : Week
  pub ran : List ℕ

-- does no row apply
unfoldable pub passes : Fault → Bool
passes sound = true
passes (fault number place) = false

-- does an event run Robust again: it is not refused, it turns the arc's bit over, and the answer does not stand
unfoldable pub reruns : List ℕ → ℕ → ℕ → ℕ → ℕ → Week → Event → Bool
reruns b r s t K w e =
    passes (event_fault b r s t K e.room e.arc)
    && turns w e.arc e.close
    && not (e.close && stands (net_of b) s t w (turned w.closed e.arc) e.arc)

unfoldable pub follow : List ℕ → ℕ → ℕ → ℕ → ℕ → Course → Event → Course
follow b r s t K now e =
    record {
      week = event_week b r s t K e.room now.week e.arc e.close;
      ran = cond (reruns b r s t K now.week e) (turned now.week.closed e.arc) now.ran;
    }

unfoldable pub after_events : List ℕ → ℕ → ℕ → ℕ → ℕ → Course → List Event → Course
after_events b r s t K now [] = now
after_events b r s t K now (e ∷ es) = after_events b r s t K (follow b r s t K now e) es

-- ---- what is shown
-- a state without its count
unfoldable pub uncounted : Week → Week
uncounted w = record { closed = w.closed; route = w.route; state = w.state; length = w.length; figure = w.figure; worst = w.worst; count = 0; floor = w.floor }

-- "state, route, figure and worst column (for an open answer the floor also; for 15 just the refusal) are those of Robust on the image
-- without the closed arcs. The count is that of the last full run"
pub record Shows (net : Net) (r s t K : ℕ) (now : Course) : Type 0 where
  pub shows : uncounted now.week ≡ uncounted (run_week net r s t K now.week.closed)
  pub count_is : now.week.count ≡ (run_week net r s t K now.ran).count

-- for every call of Fresh that passes the checks, whatever the image, the numbers and the workspace
pub record KeptWeek (b : List ℕ) (r s t K work : ℕ) : Type 0 where
  -- "after every list of events from a fresh map, refused ones included"
  pub current : fresh_fault b r s t K work ≡ sound → (events : List Event)
      → Shows (net_of b) r s t K (after_events b r s t K (record { week = fresh_week b r s t K work; ran = replicate 16 0 }) events)
  -- "the third property binds the full runs": with whatever map
  pub demand : fresh_fault b r s t K work ≡ sound → (words : List ℕ) → Demand3 (without words (net_of b)) r s t K (robust (without words (net_of b)) r s t K)
