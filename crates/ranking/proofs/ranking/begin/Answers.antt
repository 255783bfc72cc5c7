-- `ranking::begin`: the branch of all paths is looked into, with no entry yet. Assumes nothing.
use Rattle.star.proofs.NetworkLaws.{graph_few}
use Rattle.ranking.proofs.ProblemLaws.{blank_parts}
use Rattle.ranking.proofs.RankedLaws.{filled_none, first_deviation, begun}
use Rattle.ranking.proofs.ranking.begin.Goals as goal

pub consider-requires : goal.consider-requires
consider-requires c =
    record { filled = filled_none c.args.query.now.graph.holds c.args.query.now.posed c.requires.space c.reset.ensures.kept; deviation = first_deviation c.args.query.now.graph.holds c.args.query.now.posed (blank_parts (graph_few c.args.query.now.graph)) c.reset.new.work }

pub returns : goal.returns
returns c =
    begun c.args.query.now.graph.holds c.args.query.now.posed c.requires.space c.reset.ensures.kept c.reset.ensures.beyond_same c.consider.ensures.changed c.consider.ensures.settled
