-- `running::hold`: where there is no path, all else is as in a state that holds nothing. Assumes nothing.
use mathlib.Core.Path.{refl}
use Rattle.week_calls.specs.Weeks.{no_week}
use Rattle.week_calls.proofs.running.hold.Goals as goal

pub returns-in-Err : goal.returns-in-Err
unfolding no_week
returns-in-Err c = rw (c.in-Err.is, c.blank.ensures) refl
