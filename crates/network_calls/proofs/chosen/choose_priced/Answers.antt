-- `chosen::choose_priced`: what the search answers and writes is the answer against the bests, and the workspace is cleared. Assumes nothing.
use Prim.Native.Nat.{ℕ, ◌≤◌}
use native.Mathlib.Omega.{arith}
use mathlib.Core.Path.{◌∙◌, ap}
use lib.ListN.{length, replicate}
use Rattle.choosing.specs.Answers.{chosen_length}
use Rattle.outcomes.specs.Calls.{robust_values}
use Rattle.network_calls.proofs.ChoiceLaws.{chosen_long, chosen_written, decision_values}
use Rattle.network_calls.proofs.chosen.choose_priced.Goals as goal

pub returns : goal.returns
returns c =
    let fits : chosen_length c.least_regret-decision.result ≤ length c.least_regret-decision.new.route = omega (arith, c.least_regret-decision.ensures.path_fits, c.least_regret-decision.auto.route, c.requires.path_long) in
    record { result_value = decision_values c.least_regret-decision.result _ (chosen_long c.least_regret-decision.result c.args.path.now c.least_regret-decision.ensures.answer_given c.least_regret-decision.ensures.rest_kept fits) ∙ ap robust_values c.least_regret-decision.ensures.answer_given; path_after = chosen_written c.least_regret-decision.result c.args.path.now c.least_regret-decision.ensures.answer_given c.least_regret-decision.ensures.rest_kept fits; work_after = c.clear.ensures ∙ ap (λ (k : ℕ). replicate k 0) c.least_regret-decision.auto.work }
