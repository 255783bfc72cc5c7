-- `standing::stands`: each return is one of the three reasons, or that there is none. Assumes nothing.
use mathlib.Core.Path.{◌≡◌, sym, ◌∙◌, ap}
use lib.ListN.{get_or, take}
use Rattle.image.specs.Layout.{net_of}
use Rattle.closures.specs.Standing.{touches}
use Rattle.week_calls.specs.Weeks.{route_of}
use Rattle.week_calls.proofs.WeekLaws.{unsettled, went_by, by_bests}
use Rattle.week_calls.proofs.standing.stands.Goals as goal

pub returns-then-week-ne1 : goal.returns-then-week-ne1
returns-then-week-ne1 c = sym (unsettled (net_of c.args.network.now.image.now) c.args.start c.args.goal c.args.week c.args.next c.args.arc c.if-week-ne1.true)

pub returns-then-touched : goal.returns-then-touched
unfolding route_of
returns-then-touched c =
    let went : c.touched.result ≡ touches (get_or (net_of c.args.network.now.image.now).arcs c.args.arc (0, 0)) (route_of c.args.week) = c.touched.ensures ∙ ap (λ k. touches (get_or (net_of c.args.network.now.image.now).arcs c.args.arc (0, 0)) (take k c.args.week.route)) c.min-count.ensures in
    sym (went_by (net_of c.args.network.now.image.now) c.args.start c.args.goal c.args.week c.args.next c.args.arc c.if-week-ne1.false (sym went ∙ c.if-touched.true))

pub returns : goal.returns
unfolding route_of
returns c =
    let went : c.touched.result ≡ touches (get_or (net_of c.args.network.now.image.now).arcs c.args.arc (0, 0)) (route_of c.args.week) = c.touched.ensures ∙ ap (λ k. touches (get_or (net_of c.args.network.now.image.now).arcs c.args.arc (0, 0)) (take k c.args.week.route)) c.min-count.ensures in
    c.same_bests.ensures ∙ sym (by_bests (net_of c.args.network.now.image.now) c.args.start c.args.goal c.args.week c.args.next c.args.arc c.if-week-ne1.false (sym went ∙ c.if-touched.false))
