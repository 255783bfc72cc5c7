-- `regret::regret`: the rows of the image and of the ends stand before those of the list. Assumes nothing.
use mathlib.Core.Path.{sym, ◌∙◌, ap}
use mathlib.Core.List.{[], ◌∷◌}
use Rattle.terms.specs.Regret.{figure, worst}
use Rattle.image.specs.Outcome.{outcome}
use Rattle.image.specs.Layout.{net_of}
use Rattle.image.proofs.AnswerLaws.{ends_first}
use Rattle.image.proofs.OutcomeLaws.{then_next, then_sound}
use Rattle.outcomes.specs.Calls.{regret_fault, regret_outcome}
use Rattle.outcomes.proofs.RowLaws.{given_sizes, ends_sound}
use Rattle.network_calls.proofs.regret.regret.Goals as goal

pub returns-in_err-sizes : goal.returns-in_err-sizes
unfolding regret_outcome regret_fault
returns-in_err-sizes c = ends_first _ _ _ c.from_residual.ensures.1 _ _ c.in_err-sizes.ensures _ _

pub measure_list-requires : goal.measure_list-requires
measure_list-requires c =
    let p = given_sizes _ (λ e. (then_sound _ _ e).0) c.in_ok-sizes.ensures in
    ends_sound _ _ _ (then_sound _ _ p.0).1

pub returns : goal.returns
unfolding regret_outcome regret_fault
returns c =
    let p = given_sizes _ (λ e. (then_sound _ _ e).0) c.in_ok-sizes.ensures in
    c.measure_list.ensures ∙ ap (λ f. outcome f (figure (net_of c.args.image.now) c.args.start c.args.goal c.args.nodes.now ∷ worst (net_of c.args.image.now) c.args.start c.args.goal c.args.nodes.now ∷ [])) (sym (then_next _ p.0))

pub invariant_of-network : goal.invariant_of-network
invariant_of-network c = record { accepted = (given_sizes _ (λ e. (then_sound _ _ e).0) c.in_ok-sizes.ensures).1 }
