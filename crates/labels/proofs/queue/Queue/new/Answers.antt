-- `Queue::new`: no flag is set, and no place of the ring is in use. Assumes nothing.
use mathlib.Core.Path.{sym}
use Rattle.std.specs.Prelude.{false}
use Rattle.star.proofs.Stores.{take_replicate}
use Rattle.labels.proofs.QueueLaws.{none_listed}
use Rattle.labels.proofs.queue.Queue.new.Goals as goal

pub invariant_of-result : goal.invariant_of-result
invariant_of-result c = (c.requires.1, rw (sym (take_replicate 201 c.args.nodes false c.requires.1)) at (none_listed c.args.nodes c.requires.0 c.requires.1))

pub returns : goal.returns
returns c = take_replicate 201 c.args.nodes false c.requires.1
