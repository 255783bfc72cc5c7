-- `splitting::arc_weight` is the weight of the arc that was found. Assumes nothing.
use mathlib.Core.Path.{sym}
use Rattle.star.specs.Layout.{graph_of}
use Rattle.star.proofs.ArcLaws.{linked_at, at_weight}
use Rattle.star.proofs.StarLaws.{found_at, none_found}
use Rattle.ranking.proofs.splitting.arc_weight.Goals as goal

pub returns-in-None : goal.returns-in-None
unfolding graph_of
returns-in-None c =
    let holds = c.args.graph.now.holds in
    λ l. let a = linked_at holds.arcs _ _ l in
    absurd (none_found c.arc.ensures c.in-None.is holds.star a.0 a.1)

pub returns-in-Some : goal.returns-in-Some
unfolding graph_of
returns-in-Some c =
    let holds = c.args.graph.now.holds in
    λ l. sym (at_weight holds.arcs (found_at c.arc.ensures c.in-Some.is holds.star))
