-- `measured::measure_shared`: row 14 if it applies, or the measure. Assumes nothing.
use Prim.Native.Nat.{ℕ}
use mathlib.Core.Path.{sym, ◌∙◌, ap, ap₂, subst}
use mathlib.Core.List.{[], ◌∷◌}
use Rattle.terms.specs.Regret.{fault}
use Rattle.terms.proofs.CommonLaws.{no_fault_open}
use Rattle.image.specs.Outcome.{gives}
use Rattle.image.proofs.OutcomeLaws.{outcome_fault, outcome_sound}
use Rattle.image.proofs.AnswerLaws.{handed_on}
use Rattle.loading.specs.Accepted.{Node}
use Rattle.loading.proofs.DecodeLaws.{admitted}
use Rattle.measuring.proofs.ColumnLaws.{first_column}
use Rattle.outcomes.specs.Calls.{list_row}
use Rattle.network_calls.proofs.NodeListLaws.{list_sound}
use Rattle.network_calls.proofs.SharedLaws.{nodes_same, first_fault}
use Rattle.network_calls.proofs.measured.measure_shared.Goals as goal

pub column-requires : goal.column-requires
column-requires c = first_column c.args.columns.now

pub check_list-requires : goal.check_list-requires
check_list-requires c = subst (λ x. Node x c.args.start) (sym (c.column.ensures.nodes ∙ nodes_same (admitted c.args.network.now.accepted) c.args.columns.now c.requires.common)) c.requires.ends.start_in

pub returns-in_err-check_list : goal.returns-in_err-check_list
returns-in_err-check_list c =
    let row_is = ap (λ g. list_row (fault g c.args.start c.args.goal c.args.nodes.now)) c.column.ensures.graph ∙ ap list_row (first_fault (admitted c.args.network.now.accepted) c.args.columns.now c.requires.common c.args.start c.args.goal c.args.nodes.now) in
    handed_on _ _ _ c.from_residual.ensures.1 ∙ sym (outcome_fault _ (sym (c.in_err-check_list.ensures ∙ row_is)))

pub measure_path-requires : goal.measure_path-requires
measure_path-requires c =
    let a = admitted c.args.network.now.accepted in
    let passes = c.in_ok-check_list.ensures ∙ ap (λ g. list_row (fault g c.args.start c.args.goal c.args.nodes.now)) c.column.ensures.graph ∙ ap list_row (first_fault a c.args.columns.now c.requires.common c.args.start c.args.goal c.args.nodes.now) in
    record { common = c.requires.common; bests_long = c.requires.bests_long; ends = c.requires.ends; path = no_fault_open a c.args.start c.args.goal c.args.nodes.now (list_sound _ passes) }

pub returns : goal.returns
returns c =
    let passes = c.in_ok-check_list.ensures ∙ ap (λ g. list_row (fault g c.args.start c.args.goal c.args.nodes.now)) c.column.ensures.graph ∙ ap list_row (first_fault (admitted c.args.network.now.accepted) c.args.columns.now c.requires.common c.args.start c.args.goal c.args.nodes.now) in
    ap₂ (λ (f w : ℕ). gives (f ∷ w ∷ [])) c.measure_path.ensures.0 c.measure_path.ensures.1 ∙ sym (outcome_sound _ (sym passes))
