-- What is asked of an accepted image all week, and lent for it. Assumes nothing.
use Rattle.std.specs.Prelude.{ℕ, ◌+◌, ◌*◌, ◌≤◌, List, length}
use Rattle.image.specs.Layout.{net_of}
use Rattle.loading.specs.Accepted.{InColumn, Ends}
use Rattle.week_calls.specs.declared.week.Question.{Question}

-- the question is one of the network of image b, and the workspace has K + 1 slots
pub record Asked (b : List ℕ) (q : Question) (work : List ℕ) : Type 0 where
  pub in_column : InColumn b q.column
  pub ends : Ends (net_of b).nodes q.start q.goal
  pub wanted_from : 1 ≤ q.wanted
  pub wanted_to : q.wanted ≤ 256
  pub slots_long : (q.wanted + 1) * ((net_of b).nodes + 16) ≤ length work
