-- The sum so far is of as many costs as arcs were passed.
use Rattle.std.proofs.Common.{◌*◌, ◌≤◌}
use Rattle.test_enumerate.proofs.costs.sum.Given as goal

abbrev pub invariant-loop-arc : goal.invariant-loop-arc
invariant-loop-arc l = (l.arc-index ≤ 8) × (l.total ≤ 4294967295 * l.arc-index)
