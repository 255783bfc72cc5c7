-- `event::event` meets its contract. Assumes nothing.
use Prim.Native.Nat.{ℕ}
use native.Mathlib.Omega.{arith}
use mathlib.Core.Path.{sym, ◌∙◌, ap}
use mathlib.Core.List.{[], ◌∷◌}
use lib.ListN.{length}
use Rattle.image.specs.Outcome.{gives}
use Rattle.image.specs.Layout.{net_of}
use Rattle.image.specs.Calls.{sizes}
use Rattle.image.proofs.OutcomeLaws.{then_fault, then_next, outcome_fault, outcome_sound, refuses_fault}
use Rattle.closures.specs.Map.{closed_roads}
use Rattle.loading.proofs.DecodeLaws.{few_arcs}
use Rattle.outcomes.specs.Calls.{cleared}
use Rattle.outcomes.proofs.RowLaws.{given_sizes, ranking_sound}
use Rattle.outcomes.proofs.WorkLaws.{cleared_is, cleared_not}
use Rattle.week_calls.specs.Weeks.{fresh_fault, event_row, event_fault, event_week, event_outcome}
use Rattle.week_calls.proofs.WeekLaws.{wrong_arc, right_arc, if_passes, if_refused, asked_of}
use Rattle.week_calls.proofs.event.event.Goals as goal

pub returns-in-Err : goal.returns-in-Err
unfolding fresh_fault event_fault event_week event_outcome
returns-in-Err c =
    let e = refuses_fault (fresh_fault c.args.image.now c.args.column c.args.start c.args.goal c.args.wanted (length c.args.work.now)) (sizes c.args.image.now) c.in-Err.ensures in
    let f = then_fault (event_row (net_of c.args.image.now) c.args.arc) e in
    record { week_value = sym (if_refused _ _ f); tally_value = sym (outcome_fault _ f); work_after = sym (cleared_not _ f) }

pub returns-then-sizes-arc : goal.returns-then-sizes-arc
unfolding event_fault event_week event_outcome fresh_fault
returns-then-sizes-arc c =
    let p = given_sizes _ (λ e. (ranking_sound _ _ _ _ _ _ e).search.accepted) c.in-Ok.ensures in
    let f = then_next _ p.0 ∙ wrong_arc (net_of c.args.image.now) c.args.arc (omega (arith, p.1.arcs_are, c.if-sizes-arc.true)) in
    record { week_value = sym (if_refused _ _ f); tally_value = sym (outcome_fault _ f); work_after = sym (cleared_not _ f) }

pub follow-after-requires : goal.follow-after-requires
unfolding fresh_fault
follow-after-requires c =
    let p = given_sizes _ (λ e. (ranking_sound _ _ _ _ _ _ e).search.accepted) c.in-Ok.ensures in
    record { asked = asked_of c.args.column c.args.start c.args.goal c.args.wanted p.1 p.0; arc = omega (arith, c.if-sizes-arc.false) }

pub closed_roads-roads-requires : goal.closed_roads-roads-requires
closed_roads-roads-requires c =
    let p = given_sizes _ (λ e. (ranking_sound _ _ _ _ _ _ e).search.accepted) c.in-Ok.ensures in
    omega (arith, few_arcs p.1)

pub returns : goal.returns
unfolding event_fault event_week event_outcome fresh_fault
returns c =
    let p = given_sizes _ (λ e. (ranking_sound _ _ _ _ _ _ e).search.accepted) c.in-Ok.ensures in
    let s = then_next _ p.0 ∙ right_arc (net_of c.args.image.now) c.args.arc (omega (arith, p.1.arcs_are, c.if-sizes-arc.false)) in
    let week_is = c.follow-after.ensures.value ∙ sym (if_passes _ c.args.week s) in
    record { week_value = week_is; tally_value = ap (λ (x : ℕ). gives (x ∷ [])) (c.closed_roads-roads.ensures.0 ∙ ap (λ (m : ℕ). closed_roads c.follow-after.result.closed m) p.1.arcs_are ∙ ap (λ w. closed_roads w.closed (length (net_of c.args.image.now).arcs)) week_is) ∙ sym (outcome_sound _ s); work_after = c.follow-after.ensures.work_after ∙ cleared_is c.args.work.now ∙ ap (λ f. cleared f c.args.work.now) (sym s) }

pub invariant_of-network : goal.invariant_of-network
invariant_of-network c = record { accepted = (given_sizes _ (λ e. (ranking_sound _ _ _ _ _ _ e).search.accepted) c.in-Ok.ensures).1 }
