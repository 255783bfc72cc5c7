-- `trip::Trip::load`: the column's arcs take the beginning of the slices. Assumes nothing.
use mathlib.Core.Path.{refl}
use Rattle.outcomes.proofs.WorkLaws.{column_holds}
use Rattle.column_calls.proofs.trip.Trip.load.Goals as goal

pub load_whole-m-requires : goal.load_whole-m-requires
load_whole-m-requires c = record { column = c.args.self.now.in_column; goal = c.args.self.now.ends.goal_in; room = c.requires }

pub invariant_of-result : goal.invariant_of-result
invariant_of-result c = record { holds = column_holds c.load_whole-m.ensures.1 c.args.self.now.network.accepted.nodes_are }

pub returns : goal.returns
returns c = record { nodes = refl; loaded = c.load_whole-m.ensures.1 }
