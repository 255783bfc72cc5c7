-- `Queue::take` makes the picked node clean and puts the first one in its place. Assumes nothing.
use mathlib.Core.Path.{◌∙◌, sym, ap}
use native.Mathlib.Omega.{arith}
use mathlib.Core.Bool.{Bool, false}
use mathlib.Core.List.{List}
use lib.ListN.{get_or, set, take}
use Rattle.labels.proofs.SumLaws.{flagged_zero}
use Rattle.labels.proofs.QueueLaws.{count_le, node_in, take_at, flag_set}
use Rattle.labels.proofs.queue.Queue.take.Goals as goal

pub returns-then-count-eq0 : goal.returns-then-count-eq0
returns-then-count-eq0 c = record { node = tt; none = rw c.self.view_is at (flagged_zero (take c.self.inside.nodes c.self.inside.dirty) (sym c.self.invariant.1.counted ∙ c.if-count-eq0.true)) }

pub pick-at-requires : goal.pick-at-requires
pick-at-requires c = record { ends = (c.self.invariant.1.start, omega arith, count_le c.self.invariant.1); ring = rw (c.self.view_is, c.requires) at c.self.invariant.1.nodes }

pub invariant_of-self : goal.invariant_of-self
invariant_of-self c =
    let l = c.self.invariant.1 in
    (c.self.invariant.0, rw (flag_set _ c.self.inside.dirty (node_in l c.pick-at.result c.pick-at.ensures.place) false) (take_at l c.pick-at.ensures))

pub returns : goal.returns
returns c =
    let l = c.self.invariant.1 in
    let v = get_or c.self.inside.ring c.pick-at.result 0 in
    record {
      node = (rw c.self.view_is at (l.all_dirty c.pick-at.result c.pick-at.ensures), flag_set _ c.self.inside.dirty (node_in l c.pick-at.result c.pick-at.ensures.place) false ∙ ap (λ (d : List Bool). set d v false) c.self.view_is);
      none = tt;
    }
