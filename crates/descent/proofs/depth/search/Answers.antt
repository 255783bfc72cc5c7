-- `depth::search`: the start is laid out and flagged in local arrays, and the search goes down from there. Assumes nothing.
use mathlib.Core.List.{[]}
use Rattle.descent.specs.Rule.{fresh_state}
use Rattle.terms.proofs.RoomLaws.{part_zero}
use Rattle.descent.proofs.StartLaws.{begun_one, given_one, zeros_low, outcome_is, fresh_room}
use Rattle.descent.proofs.depth.search.Goals as goal

pub descend-requires-clause-begun : goal.descend-requires-clause-begun
descend-requires-clause-begun c =
    rw c.from-v.ensures (begun_one (fresh_room c.args.columns.now.fits.ground.few c.requires.0 c.requires.1 c.requires.2) zeros_low)

pub returns : goal.returns
returns c = λ net say.
    let run = rw c.from-v.ensures at (c.descend.ensures.ends net c.args.task.start c.args.task.goal [] fresh_state) in
    outcome_is say.nodes_are (run (given_one (fresh_room c.args.columns.now.fits.ground.few c.requires.0 c.requires.1 c.requires.2) say (part_zero 8 8)))
