-- `insertion::shift` moves slot numbers one place on, from the last to the first. The loop: those from place p on have moved. Assumes nothing.
use Rattle.std.proofs.Common.{◌≤◌}
use Rattle.candidates.proofs.InsertionLaws.{Moving}
use Rattle.candidates.proofs.insertion.shift.Given as goal

abbrev pub invariant-loop-p : goal.invariant-loop-p
invariant-loop-p l = (l.place ≤ l.p) × Moving l.n l.p l.last l.initial.work l.work
