-- The values of Regret's and Robust's results. Assumes nothing.
use Rattle.std.specs.Prelude.{ℕ, Option, Some, None, List, [], ◌∷◌}
pub use Rattle.choosing.specs.declared.answering.Decision.{Decision}
pub use Rattle.choosing.specs.Answers.{answer_of, answered}
use Rattle.network_calls.specs.declared.measured.Measure.{Measure}

-- figure and worst column
abbrev pub measure_list : Measure → List ℕ
measure_list m = m.figure ∷ m.worst ∷ []

-- an answer's state, by its floor: 1 if it is settled, 2 if it is open
abbrev pub state_of : Option ℕ → ℕ
state_of None = 1
state_of (Some floor) = 2

-- the floor, or 0
abbrev pub floor_of : Option ℕ → ℕ
floor_of None = 0
floor_of (Some floor) = floor

-- length, figure, worst column, count, state and floor
abbrev pub decision_list : Decision → List ℕ
decision_list d = d.length ∷ d.figure ∷ d.worst ∷ d.count ∷ state_of d.floor ∷ floor_of d.floor ∷ []
