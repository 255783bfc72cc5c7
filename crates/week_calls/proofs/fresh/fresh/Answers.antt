-- `fresh::fresh` meets its contract. Assumes nothing.
use mathlib.Core.Path.{sym, ◌∙◌, ap}
use lib.ListN.{length, replicate}
use Rattle.terms.specs.Robust.{robust}
use Rattle.image.specs.Layout.{net_of}
use Rattle.image.specs.Calls.{sizes}
use Rattle.image.proofs.OutcomeLaws.{outcome_fault, outcome_sound, refuses_fault}
use Rattle.closures.proofs.WithoutLaws.{without_fresh}
use Rattle.outcomes.specs.Calls.{cleared}
use Rattle.outcomes.proofs.RowLaws.{given_sizes, ranking_sound}
use Rattle.outcomes.proofs.WorkLaws.{cleared_is, cleared_not}
use Rattle.week_calls.specs.Weeks.{week_of, run_week, fresh_fault, fresh_week, fresh_outcome}
use Rattle.week_calls.proofs.WeekLaws.{if_passes, if_refused, asked_of}
use Rattle.week_calls.proofs.PromiseLaws.{kept_week}
use Rattle.week_calls.proofs.fresh.fresh.Goals as goal

pub returns-in-Err : goal.returns-in-Err
unfolding fresh_fault fresh_week fresh_outcome
returns-in-Err c =
    let e = refuses_fault (fresh_fault c.args.image.now c.args.column c.args.start c.args.goal c.args.wanted (length c.args.work.now)) (sizes c.args.image.now) c.in-Err.ensures in
    record { week_value = c.blank.ensures ∙ sym (if_refused _ _ e); tally_value = sym (outcome_fault _ e); work_after = sym (cleared_not _ e); kept_week = kept_week _ _ _ _ _ _ }

pub run-week-requires : goal.run-week-requires
unfolding fresh_fault
run-week-requires c =
    let p = given_sizes _ (λ e. (ranking_sound _ _ _ _ _ _ e).search.accepted) c.in-Ok.ensures in
    asked_of c.args.column c.args.start c.args.goal c.args.wanted p.1 p.0

pub returns : goal.returns
unfolding fresh_week fresh_outcome run_week fresh_fault
returns c =
    let p = given_sizes _ (λ e. (ranking_sound _ _ _ _ _ _ e).search.accepted) c.in-Ok.ensures in
    record { week_value = c.run-week.ensures.value ∙ ap (λ net. week_of (replicate 16 0) (robust net c.args.column c.args.start c.args.goal c.args.wanted)) (without_fresh (net_of c.args.image.now)) ∙ sym (if_passes _ _ p.0); tally_value = sym (outcome_sound _ p.0); work_after = c.run-week.ensures.work_after ∙ cleared_is c.args.work.now ∙ ap (λ f. cleared f c.args.work.now) (sym p.0); kept_week = kept_week _ _ _ _ _ _ }

pub invariant_of-network : goal.invariant_of-network
invariant_of-network c = record { accepted = (given_sizes _ (λ e. (ranking_sound _ _ _ _ _ _ e).search.accepted) c.in-Ok.ensures).1 }
