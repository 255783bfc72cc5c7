-- `insertion::reset` makes the order the identity. The loop: the slots below p stand at their own places, and what lies behind the slots is kept. Assumes nothing.
use Rattle.std.proofs.Common.{◌≡◌, ℕ, ◌<◌, ◌+◌, ◌*◌, drop}
use Rattle.candidates.specs.Slots.{order}
use Rattle.candidates.proofs.insertion.reset.Given as goal

abbrev pub invariant-loop-p : goal.invariant-loop-p
invariant-loop-p l = ((q : ℕ) → q < l.p → order l.n l.work q ≡ q) × (drop (l.slots * (l.n + 16)) l.work ≡ drop (l.slots * (l.n + 16)) l.initial.work)
