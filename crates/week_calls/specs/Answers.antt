-- Robust's answer as a state. Assumes nothing.
use Rattle.std.specs.Prelude.{ℕ, List, Result, Ok, Err}
use Rattle.image.specs.declared.refusal.Refusal.{Refusal}
use Rattle.network_calls.specs.Answers.{Decision, state_of, floor_of}
use Rattle.week_calls.specs.declared.week.Week.{Week}

-- a map, a route that is written, and what Robust gave beside it
abbrev pub made : List ℕ → List ℕ → Result Decision Refusal → Week
made words route (Ok d) = record { closed = words; route = route; state = state_of d.floor; length = d.length; figure = d.figure; worst = d.worst; count = d.count; floor = floor_of d.floor }
made words route (Err r) = record { closed = words; route = route; state = 15; length = 0; figure = 0; worst = 0; count = 0; floor = 0 }
