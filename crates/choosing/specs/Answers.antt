-- What Robust's answer says, with and without a floor (REFERENCE, section 4.6). Assumes nothing.
use Rattle.std.specs.Prelude.{ℕ, Option, Some, None}
use Rattle.terms.specs.Paths.{Route}
use Rattle.terms.specs.Robust as terms
use Rattle.choosing.specs.declared.answering.Decision.{Decision}

-- path, figure, worst column and count: open if there is a floor, else settled
abbrev pub answer_of : Route → ℕ → ℕ → ℕ → Option ℕ → terms.Answer
answer_of p figure worst count None = terms.settled p figure worst count
answer_of p figure worst count (Some floor) = terms.left_open p figure worst count floor

-- the path's length
abbrev pub chosen_length : Decision → ℕ
chosen_length d = d.length

-- with p the path that was written
abbrev pub answered : Route → Decision → terms.Answer
answered p d = answer_of p d.figure d.worst d.count d.floor
