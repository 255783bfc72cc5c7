-- `running::run`: what Robust gives and writes on the image without the closed arcs is the state. Assumes nothing.
use Prim.Native.Nat.{ℕ}
use mathlib.Core.Path.{◌∙◌, ap}
use lib.ListN.{replicate}
use Rattle.terms.specs.Robust.{robust}
use Rattle.image.specs.Layout.{net_of}
use Rattle.closures.specs.Map.{without}
use Rattle.network_calls.specs.Held.{no_open_path}
use Rattle.week_calls.specs.Weeks.{run_week}
use Rattle.week_calls.proofs.WeekLaws.{week_slices, made_is, none_found}
use Rattle.week_calls.proofs.running.run.Goals as goal

pub choose_left-answer-requires : goal.choose_left-answer-requires
choose_left-answer-requires c =
    record { column = c.requires.in_column; ends = c.requires.ends; choice_slices = week_slices c.args.network.now.accepted c.requires }

pub returns : goal.returns
unfolding run_week
returns c =
    let net = without c.args.closed (net_of c.args.network.now.image.now) in
    record { value = c.hold.ensures ∙ made_is c.args.closed c.choose_left-answer.result (robust net c.args.asked.column c.args.asked.start c.args.asked.goal c.args.asked.wanted) (no_open_path net c.args.asked.column c.args.asked.start c.args.asked.goal) _ (λ number place e. none_found net c.args.asked.column c.args.asked.start c.args.asked.goal c.args.asked.wanted e) c.choose_left-answer.ensures.result_value c.choose_left-answer.ensures.path_after; work_after = c.clear.ensures ∙ ap (λ (k : ℕ). replicate k 0) c.choose_left-answer.auto.work }
