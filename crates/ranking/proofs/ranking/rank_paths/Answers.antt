-- `ranking::rank_paths`. The loop: j paths are ranked, and no branch is waiting, or no more paths are wanted. Assumes nothing.
use native.Mathlib.Omega.{arith}
use mathlib.Core.Path.{◌≡◌, refl, ◌∙◌}
use Rattle.candidates.proofs.EntryLaws.{length_entries}
use Rattle.ranking.specs.Ranking.{Stage}
use Rattle.ranking.proofs.RankedLaws.{stage_going, all_ranked}
use Rattle.ranking.proofs.ranking.rank_paths.Goals as goal

pub loop-j-init : goal.loop-j-init
loop-j-init c = (c.begin-count.ensures.filled, Stage.going c.begin-count.ensures.search, refl, refl)

pub advance-count-requires : goal.advance-count-requires
advance-count-requires c =
    record { filled = c.loop-j.invariant.0; rank_is_next = (c.loop-j-test.true, stage_going c.args.query.now.graph.holds c.args.query.now.posed c.loop-j.invariant.0 c.loop-j-test.true c.loop-j.invariant.1) }

pub loop-j-smaller : goal.loop-j-smaller
loop-j-smaller c = omega (arith, c.loop-j-test.true, c.loop-j.invariant.0.kept.upto)

pub loop-j-preserved : goal.loop-j-preserved
loop-j-preserved c = (
  record { some = c.loop-j.invariant.0.some; few = c.loop-j.invariant.0.few; kept = c.advance-count.ensures.changed.kept; entered = c.advance-count.ensures.changed.entered },
  c.advance-count.ensures.stage,
  c.advance-count.ensures.changed.beyond ∙ c.loop-j.invariant.2,
  c.advance-count.auto.work ∙ c.loop-j.invariant.3,
)

pub returns : goal.returns
returns c =
    let z : c.loop-j.j ≡ c.loop-j.count = omega (arith, c.loop-j-test.false, c.loop-j.invariant.0.entered.border, length_entries c.args.query.now.graph.nodes c.loop-j.work c.loop-j.count) in
    all_ranked c.args.query.now.graph.holds c.args.query.now.posed c.loop-j.invariant.0 z c.loop-j.invariant.1 (c.loop-j.invariant.2 ∙ c.begin-count.ensures.beyond)
