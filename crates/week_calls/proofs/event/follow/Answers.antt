-- `event::follow`: an event that changes nothing leaves the state. Assumes nothing.
use mathlib.Core.Path.{sym, ◌∙◌}
use Rattle.image.specs.Layout.{net_of}
use Rattle.week_calls.proofs.WeekLaws.{next_same, next_changed, turns_by}
use Rattle.week_calls.proofs.event.follow.Goals as goal

pub returns-then-turns : goal.returns-then-turns
returns-then-turns c =
    let turned = sym (turns_by c.args.week c.args.arc c.args.close c.is_closed-closed.ensures) ∙ sym c.turns.ensures ∙ c.if-turns.true in
    record { value = c.change.ensures.value ∙ sym (next_changed (net_of c.args.network.now.image.now) c.args.asked.column c.args.asked.start c.args.asked.goal c.args.asked.wanted c.args.week c.args.arc c.args.close turned); work_after = c.change.ensures.work_after }

pub returns : goal.returns
returns c =
    let left = sym (turns_by c.args.week c.args.arc c.args.close c.is_closed-closed.ensures) ∙ sym c.turns.ensures ∙ c.if-turns.false in
    record { value = sym (next_same (net_of c.args.network.now.image.now) c.args.asked.column c.args.asked.start c.args.asked.goal c.args.asked.wanted c.args.week c.args.arc c.args.close left); work_after = c.clear.ensures }
