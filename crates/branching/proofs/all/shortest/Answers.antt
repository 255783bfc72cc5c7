-- `all::shortest` lays the start out, and searches the branch of all paths. Assumes nothing.
use mathlib.Core.Path.{refl, sym, ◌∙◌, subst}
use mathlib.Core.List.{[]}
use Rattle.exits.specs.Small.{Small}
use Rattle.branching.specs.Found.{Extent, FirstFound}
use Rattle.branching.proofs.AllLaws.{started}
use Rattle.branching.proofs.FirstLaws.{branch_empty}
use Rattle.branching.proofs.NetworkLaws.{graph_small, graph_consistent, flags_room}
use Rattle.branching.proofs.all.shortest.Goals as goal

pub least_exit-requires-clause-small : goal.least_exit-requires-clause-small
least_exit-requires-clause-small c = graph_small c.args.graph.now.holds c.requires.overall_long refl c.requires.least

pub returns-in_err-step : goal.returns-in_err-step
returns-in_err-step c =
    let s = started c.args.path.now (flags_room c.args.graph.now.holds c.requires.overall_long) c.requires.path_long c.requires.ends in
    let consistent = graph_consistent c.args.graph.now.holds c.requires.overall_long refl c.requires.least (λ x. refl) in
    rw c.from_residual.ensures (record { extent = Extent.nothing; first_found = FirstFound.none (λ p i. branch_empty s.begun s.unbarred (s.beginning _) (consistent _) (rw s.last c.in_err-step.ensures.chosen) p (rw s.laid i)) })

pub along-requires : goal.along-requires
along-requires c =
    let s = started c.args.path.now (flags_room c.args.graph.now.holds c.requires.overall_long) c.requires.path_long c.requires.ends in
    record {
      used_long = s.long ∙ c.requires.overall_long;
      begun = s.begun;
      ahead = s.ahead;
      consistent = graph_consistent c.args.graph.now.holds c.requires.overall_long refl c.requires.least (λ x. refl) _;
      small = subst (λ i. Small i c.args.overall.now) (sym s.long) (graph_small c.args.graph.now.holds c.requires.overall_long refl c.requires.least);
      choice = rw s.last c.in_ok-step.ensures.chosen;
    }

pub returns : goal.returns
returns c =
    let s = started c.args.path.now (flags_room c.args.graph.now.holds c.requires.overall_long) c.requires.path_long c.requires.ends in
    record { extent = c.along.ensures.kept.reach; first_found = rw s.laid at (c.along.ensures.first_found c.args.start [] (s.beginning _) s.unbarred) }
