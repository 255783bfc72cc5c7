-- `rank::check_rank`: row 13 for rows and costs after the rows of `check_ranking`. Assumes nothing.
use mathlib.Core.Path.{◌≡◌, sym, ◌∙◌, ap}
use Rattle.image.specs.Outcome.{gives, fault}
use Rattle.image.proofs.AnswerLaws.{ends_first}
use Rattle.image.proofs.OutcomeLaws.{outcome_fault, outcome_sound}
use Rattle.outcomes.specs.Calls.{rank_rows}
use Rattle.outcomes.proofs.RowLaws.{given_sizes, sizes_of, ranking_sound}
use Rattle.column_calls.proofs.RankLaws.{rows_short, costs_short, slices_long}
use Rattle.column_calls.proofs.rank.check_rank.Goals as goal
use Rattle.column_calls.proofs.rank.check_rank.Goals.{then-rows-k-via-then-rows-k, then-rows-k-via-else-rows-k+then-costs-k}

pub returns-in_err-sizes : goal.returns-in_err-sizes
unfolding rank_rows
returns-in_err-sizes c = ends_first _ _ _ c.from_residual.ensures.1 _ _ c.in_err-sizes.ensures _ _

pub returns-then-rows-k : goal.returns-then-rows-k
returns-then-rows-k c =
    let p = given_sizes _ (λ e. (ranking_sound _ _ _ _ _ _ e).search.accepted) c.in_ok-sizes.ensures in
    let e : rank_rows c.args.image.now c.args.column c.args.start c.args.goal c.args.wanted c.args.rows c.args.costs c.args.work ≡ fault 13 0 =
    elim c.then-rows-k.branch [
      | then-rows-k-via-then-rows-k w ↦ rows_short _ _ _ _ _ _ _ _ p.0 _ p.1.nodes_are w.if-rows-k.true
      | then-rows-k-via-else-rows-k+then-costs-k w ↦ costs_short _ _ _ _ _ _ _ _ p.0 _ p.1.nodes_are w.if-rows-k.false w.if-costs-k.true
    ] in
    sym (outcome_fault _ e)

pub returns : goal.returns
returns c =
    let p = given_sizes _ (λ e. (ranking_sound _ _ _ _ _ _ e).search.accepted) c.in_ok-sizes.ensures in
    ap gives (sizes_of p.1) ∙ sym (outcome_sound _ (slices_long _ _ _ _ _ _ _ _ p.0 _ p.1.nodes_are c.if-rows-k.false c.if-costs-k.false))
