-- `clearing::clear` fills the workspace with 0. The loop: the words below `from` are 0. Assumes nothing.
use Rattle.std.proofs.Common.{◌≡◌, ◌-◌, length}
use Rattle.listing.proofs.ClearLaws.{cleared}
use Rattle.listing.proofs.clearing.clear.Given as goal

abbrev pub invariant-loop-from : goal.invariant-loop-from
invariant-loop-from l = l.work ≡ cleared l.from l.initial.work

abbrev pub decreases-loop-from : goal.decreases-loop-from
decreases-loop-from l = length l.initial.work - l.from
