-- `ranking::advance`: the last path that is wanted is not split. Assumes nothing.
use Rattle.ranking.specs.Ranking.{Stage}
use Rattle.ranking.proofs.RankedLaws.{due_next, last_changed, last_stage}
use Rattle.ranking.proofs.ranking.advance.Goals as goal

pub returns-then-rank-slots : goal.returns-then-rank-slots
returns-then-rank-slots c =
    let q = c.args.query.now in
    let searching = c.requires.rank_is_next.1 in
    let F = c.requires.filled in
    record { changed = last_changed q.graph.holds q.posed F c.requires.rank_is_next.0 searching; stage = last_stage q.graph.holds q.posed F c.requires.rank_is_next.0 searching c.if-rank-slots.true }

pub split-requires : goal.split-requires
split-requires c =
    let q = c.args.query.now in
    let searching = c.requires.rank_is_next.1 in
    record { filled = c.requires.filled; due = due_next q.graph.holds q.posed c.requires.filled c.requires.rank_is_next.0 searching }

pub returns : goal.returns
returns c =
    record { changed = c.split.ensures.changed; stage = Stage.going c.split.ensures.searching }
