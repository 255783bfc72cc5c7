-- No more paths are open than were looked at.
use Rattle.std.proofs.Common.{◌≤◌}
use Rattle.test_enumerate.proofs.closing.open_everywhere.Given as goal

abbrev pub invariant-loop-i : goal.invariant-loop-i
invariant-loop-i l = l.count ≤ l.i
