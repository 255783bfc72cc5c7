-- `Queue::mark` puts a clean node at one of the two ends of the ring; one that is dirty stands there already. Assumes nothing.
use native.Mathlib.Omega.{arith}
use mathlib.Core.Path.{◌∙◌, ap}
use mathlib.Core.Bool.{Bool, true}
use mathlib.Core.List.{List}
use lib.ListN.{set}
use Rattle.labels.proofs.QueueLaws.{count_le, mark_back, mark_front, flag_at, flag_set, place_in}
use Rattle.labels.proofs.queue.Queue.mark.Goals as goal

pub overflow_add-self : goal.overflow_add-self
overflow_add-self c = omega (arith, count_le c.self.invariant.1)

pub invariant_of-self : goal.invariant_of-self
invariant_of-self c =
    let b = place_in c.self.view_is c.requires.0 in
    (c.self.invariant.0, rw (flag_set _ c.self.inside.dirty b true) (mark_front c.self.invariant.1 b (flag_at _ c.self.inside.dirty b ∙ c.if-self-v.false)))

pub returns-then-is_smaller : goal.returns-then-is_smaller
returns-then-is_smaller c = flag_set _ c.self.inside.dirty (place_in c.self.view_is c.requires.0) true ∙ ap (λ (d : List Bool). set d c.args.v true) c.self.view_is

pub overflow_add-self-else-is_smaller : goal.overflow_add-self-else-is_smaller
overflow_add-self-else-is_smaller c = omega (arith, count_le c.self.invariant.1, c.self.invariant.1.start)

pub invariant_of-self-else-is_smaller : goal.invariant_of-self-else-is_smaller
invariant_of-self-else-is_smaller c =
    let b = place_in c.self.view_is c.requires.0 in
    (c.self.invariant.0, rw (flag_set _ c.self.inside.dirty b true) (mark_back c.self.invariant.1 b (flag_at _ c.self.inside.dirty b ∙ c.if-self-v.false)))

pub returns-else-is_smaller : goal.returns-else-is_smaller
returns-else-is_smaller c = flag_set _ c.self.inside.dirty (place_in c.self.view_is c.requires.0) true ∙ ap (λ (d : List Bool). set d c.args.v true) c.self.view_is
