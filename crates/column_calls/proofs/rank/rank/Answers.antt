-- `rank::rank` writes the paths where no row applies, and else nothing. Assumes nothing.
use Prim.Native.Nat.{ℕ}
use mathlib.Core.Path.{◌≡◌, sym, ◌∙◌, ap}
use mathlib.Core.List.{List, [], ◌∷◌}
use lib.ListN.{length}
use Rattle.image.specs.Outcome.{sound, gives, outcome, after}
use Rattle.image.specs.Calls.{sizes}
use Rattle.image.specs.Answers.{size_list}
use Rattle.image.specs.declared.check.Sizes.{Sizes}
use Rattle.image.proofs.AnswerLaws.{handed_on}
use Rattle.image.proofs.OutcomeLaws.{then_fault, then_next, outcome_fault, after_fault, refuses_fault}
use Rattle.outcomes.specs.Calls.{path_row, rank_rows, rank_fault, rank_of, rank_rows_of, rank_costs_of, rank_outcome, cleared}
use Rattle.loading.specs.Accepted.{Accepted}
use Rattle.outcomes.proofs.DemandLaws.{kept_2}
use Rattle.outcomes.proofs.RowLaws.{given_sizes}
use Rattle.column_calls.proofs.RankLaws.{rank_sound, rank_slices}
use Rattle.outcomes.proofs.WorkLaws.{cleared_not}
use Rattle.column_calls.proofs.rank.rank.Goals as goal

-- sizes are given only where no row before 15 applies
passes : {b : List ℕ} (u s t K : ℕ) (rows costs work : List ℕ) {z : Sizes} → gives (size_list z) ≡ outcome (rank_rows b u s t K (length rows) (length costs) (length work)) (sizes b) → (rank_rows b u s t K (length rows) (length costs) (length work) ≡ sound) × Accepted b z
passes u s t K rows costs work e = given_sizes _ (λ h. (rank_sound _ _ _ _ _ rows costs work h).accepted) e

pub returns-in_err-sizes : goal.returns-in_err-sizes
unfolding rank_outcome rank_fault
returns-in_err-sizes c =
    let f = then_fault _ (refuses_fault _ _ c.in_err-sizes.ensures) in
    record { result_value = handed_on _ _ _ c.from_residual.ensures.1 ∙ sym (outcome_fault _ f); rows_after = sym (after_fault _ _ f); costs_after = sym (after_fault _ _ f); work_after = sym (cleared_not _ f); kept2 = kept_2 c.args.image.now c.args.column c.args.start c.args.goal c.args.wanted (length c.args.rows.now) (length c.args.costs.now) (length c.args.work.now) }

pub list-requires : goal.list-requires
list-requires c =
    let e = (passes _ _ _ _ c.args.rows.now c.args.costs.now c.args.work.now c.in_ok-sizes.ensures).0 in
    rank_slices c.args.image.now c.args.column c.args.start c.args.goal c.args.wanted c.args.rows.now c.args.costs.now c.args.work.now e

pub invariant_of-trip-2 : goal.invariant_of-trip-2
invariant_of-trip-2 c =
    let e = (passes _ _ _ _ c.args.rows.now c.args.costs.now c.args.work.now c.in_ok-sizes.ensures).0 in
    let g = rank_sound c.args.image.now c.args.column c.args.start c.args.goal c.args.wanted c.args.rows.now c.args.costs.now c.args.work.now e in
    record { in_column = record { from = g.from; upto = g.upto }; ends = g.ends }

pub returns : goal.returns
unfolding rank_outcome rank_fault
returns c =
    let e = sym (then_next (path_row c.args.image.now c.args.column c.args.start c.args.goal) (passes _ _ _ _ c.args.rows.now c.args.costs.now c.args.work.now c.in_ok-sizes.ensures).0) in
    record { result_value = c.list.ensures.result_value ∙ ap (λ f. outcome f (length (rank_of c.args.image.now c.args.column c.args.start c.args.goal c.args.wanted) ∷ [])) e; rows_after = c.list.ensures.rows_after ∙ ap (λ f. after f (rank_rows_of c.args.image.now c.args.column c.args.start c.args.goal c.args.wanted) c.args.rows.now) e; costs_after = c.list.ensures.costs_after ∙ ap (λ f. after f (rank_costs_of c.args.image.now c.args.column c.args.start c.args.goal c.args.wanted) c.args.costs.now) e; work_after = c.list.ensures.work_after ∙ ap (λ f. cleared f c.args.work.now) e; kept2 = kept_2 c.args.image.now c.args.column c.args.start c.args.goal c.args.wanted (length c.args.rows.now) (length c.args.costs.now) (length c.args.work.now) }

pub invariant_of-trip : goal.invariant_of-trip
invariant_of-trip c =
    record { accepted = (passes _ _ _ _ c.args.rows.now c.args.costs.now c.args.work.now c.in_ok-sizes.ensures).1 }
