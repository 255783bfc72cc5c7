-- What the search found, and the answer that it gives. Assumes nothing.
use Rattle.std.specs.Prelude.{ℕ, ◌≤◌, ◌≡◌, List, IfSome}
use Rattle.terms.specs.Paths.{Route}
use Rattle.terms.specs.Robust as terms
use Rattle.candidates.specs.Routes.{route_at, Rooted}
use Rattle.choosing.specs.declared.searching.Finding.{Finding}
use Rattle.choosing.specs.Answers.{answer_of}

-- the answer that it gives, with p the leader's path
abbrev pub told : Route → Finding → terms.Answer
told p f = answer_of p f.leader.figure f.leader.worst f.count f.floor

-- f gives the answer a, and its path can be laid out from the workspace w; its numbers fit 32 bits
pub record Decided (n s : ℕ) (w : List ℕ) (a : terms.Answer) (f : Finding) : Type 0 where
  pub rooted : Rooted n w f.leader.place
  pub answers : told (route_at s n w f.leader.place) f ≡ a
  pub small_figure : f.leader.figure ≤ 199000000
  pub small_floor : IfSome f.floor (λ floor. floor ≤ 199000000)
  pub small_count : f.count ≤ 256
