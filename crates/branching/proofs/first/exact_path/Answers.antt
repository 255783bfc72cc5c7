-- `first::exact_path`: with no exit the branch is empty; a walk that arrives is its first path, and so is the path step by step. Assumes nothing.
use mathlib.Core.Path.{refl, ◌∙◌}
use Prim.Native.Nat.{◌-◌}
use native.Mathlib.Omega.{arith}
use Rattle.branching.specs.Found.{Extent, FirstFound}
use Rattle.branching.proofs.FirstLaws.{branch_empty, branch_walked, branch_stepped, tried_kept}
use Rattle.branching.proofs.LaidLaws.{laid_place, laid_kept, tried_again}
use Rattle.branching.proofs.NetworkLaws.{graph_small, begun_exact, room_long}
use Rattle.branching.proofs.first.exact_path.Goals as goal

pub returns-in_err-step : goal.returns-in_err-step
returns-in_err-step c =
    let exact = begun_exact c.args.graph.now.holds c.requires.used_long c.requires.begun c.requires.ahead (c.least.auto.labels ∙ room_long c.args.graph.now.holds c.requires.used_long) c.least.ensures in
    rw c.from_residual.ensures (record { kept = record { flags = refl; kept = refl; reach = Extent.nothing }; first_found = λ s F B h. FirstFound.none (branch_empty c.requires.begun h B exact.consistent c.in_err-step.ensures.chosen) })

pub attempt-requires : goal.attempt-requires
attempt-requires c =
    let long = c.least.auto.labels ∙ room_long c.args.graph.now.holds c.requires.used_long in
    rw long (record { labels_long = c.requires.used_long; laid = (c.requires.begun.laid, rw long at c.in_ok-step.ensures.usable) })

pub returns-in-Some : goal.returns-in-Some
returns-in-Some c =
    let exact = begun_exact c.args.graph.now.holds c.requires.used_long c.requires.begun c.requires.ahead (c.least.auto.labels ∙ room_long c.args.graph.now.holds c.requires.used_long) c.least.ensures in
    let choice = c.in_ok-step.ensures.chosen in
    record {
      kept = tried_kept (rw c.in-Some.is at c.attempt.ensures.tried);
      first_found = λ s F B h.
          let r = branch_walked c.requires.begun h B choice exact.consistent (rw c.in-Some.is at (c.attempt.ensures.arrives choice.exit.reached)) in
          FirstFound.found r.0 (omega (arith, r.1, rw c.in-Some.is at c.attempt.ensures.cost_is));
    }

pub by_steps-len-requires : goal.by_steps-len-requires
by_steps-len-requires c =
    let long = c.least.auto.labels ∙ room_long c.args.graph.now.holds c.requires.used_long in
    let back = c.attempt.ensures.back in
    rw back.flags (record { used_long = c.requires.used_long; laid = (laid_kept back.kept c.attempt.auto.path c.requires.begun.laid, rw long at c.in_ok-step.ensures.usable); ahead = c.requires.ahead; labels_long = long })

pub returns : goal.returns
returns c =
    let exact = begun_exact c.args.graph.now.holds c.requires.used_long c.requires.begun c.requires.ahead (c.least.auto.labels ∙ room_long c.args.graph.now.holds c.requires.used_long) c.least.ensures in
    let back = c.attempt.ensures.back in
    record {
      kept = tried_kept (tried_again back c.by_steps-len.ensures.tried);
      first_found = λ s F B h.
          let r = branch_stepped c.requires.begun h B c.in_ok-step.ensures.chosen exact (λ p i. rw back.kept at (c.by_steps-len.ensures.is_first s p (rw back.kept i))) in
          FirstFound.found r.0 r.1;
    }

pub least-requires-clause-goal : goal.least-requires-clause-goal
least-requires-clause-goal c = rw (room_long c.args.graph.now.holds c.requires.used_long) (record { place = c.requires.ahead.place; free = c.requires.ahead.unmet })

pub least_exit-requires-clause-node : goal.least_exit-requires-clause-node
least_exit-requires-clause-node c = rw (c.least.auto.labels ∙ room_long c.args.graph.now.holds c.requires.used_long) (laid_place (c.args.d - 1) (omega (arith, c.requires.begun.some)) c.requires.begun.laid)

pub least_exit-requires-clause-small : goal.least_exit-requires-clause-small
least_exit-requires-clause-small c =
    let long = c.least.auto.labels ∙ room_long c.args.graph.now.holds c.requires.used_long in
    rw long (graph_small c.args.graph.now.holds c.requires.used_long long c.least.ensures)
