-- `week::blank` meets its contract. Assumes nothing.
use mathlib.Core.Path.{refl}
use Rattle.week_calls.specs.Weeks.{no_week}
use Rattle.week_calls.proofs.week.blank.Goals as goal

pub returns : goal.returns
unfolding no_week
returns c = refl
