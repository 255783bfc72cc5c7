-- `event::change`: the answer stands, or it is found anew. Assumes nothing.
use native.Mathlib.Omega.{arith}
use mathlib.Core.Path.{sym, ◌∙◌, ap}
use mathlib.Core.Path.{◌≡◌}
use mathlib.Core.Bool.{false, ◌&&◌}
use Rattle.closures.specs.Map.{turned}
use Rattle.image.specs.Layout.{net_of}
use Rattle.loading.proofs.DecodeLaws.{few_arcs}
use Rattle.week_calls.specs.Weeks.{with_map, run_week, stands}
use Rattle.week_calls.proofs.WeekLaws.{change_stands, change_runs, opening, moving}
use Rattle.week_calls.proofs.event.change.Goals as goal
use Rattle.week_calls.proofs.event.change.Goals.{then-close+else-stands, else-close}

pub turn-next-requires : goal.turn-next-requires
turn-next-requires c = omega (arith, c.requires.arc, few_arcs c.args.network.now.accepted)

pub returns-then-stands : goal.returns-then-stands
unfolding with_map
returns-then-stands c =
    let net = net_of c.args.network.now.image.now in
    let kept = sym (ap (λ l. stands net c.args.asked.start c.args.asked.goal c.args.week l c.args.arc) c.turn-next.ensures) ∙ sym c.stands.ensures ∙ c.if-stands.true in
    record { value = ap (with_map c.args.week) c.turn-next.ensures ∙ sym (change_stands net c.args.asked.column c.args.asked.start c.args.asked.goal c.args.asked.wanted c.args.week c.args.arc c.args.close c.if-close.true kept); work_after = c.clear.ensures }

pub returns : goal.returns
returns c =
    let net = net_of c.args.network.now.image.now in
    let not-kept : (c.args.close && stands net c.args.asked.start c.args.asked.goal c.args.week (turned c.args.week.closed c.args.arc) c.args.arc) ≡ false = elim c.if-close.branch [ then-close+else-stands w ↦ moving c.args.close (sym (ap (λ l. stands net c.args.asked.start c.args.asked.goal c.args.week l c.args.arc) c.turn-next.ensures) ∙ sym w.stands.ensures ∙ w.if-stands.false) | else-close w ↦ opening (stands net c.args.asked.start c.args.asked.goal c.args.week _ c.args.arc) w.if-close.false ] in
    record { value = c.run.ensures.value ∙ ap (run_week net c.args.asked.column c.args.asked.start c.args.asked.goal c.args.asked.wanted) c.turn-next.ensures ∙ sym (change_runs net c.args.asked.column c.args.asked.start c.args.asked.goal c.args.asked.wanted c.args.week c.args.arc c.args.close not-kept); work_after = c.run.ensures.work_after }
