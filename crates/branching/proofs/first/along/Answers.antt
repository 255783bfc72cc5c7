-- `first::along`: a walk along any consistent labels that arrives is the first path of the branch; else it is searched by exact labels.
-- Assumes nothing.
use native.Mathlib.Omega.{arith}
use Rattle.branching.specs.Found.{FirstFound}
use Rattle.branching.proofs.FirstLaws.{branch_walked, tried_kept, kept_again}
use Rattle.branching.proofs.LaidLaws.{laid_kept}
use Rattle.branching.proofs.NetworkLaws.{choice_fresh}
use Rattle.branching.proofs.first.along.Goals as goal

pub attempt-requires : goal.attempt-requires
attempt-requires c =
    rw c.requires.small.long (record { labels_long = c.requires.used_long; laid = (c.requires.begun.laid, choice_fresh c.args.graph.now.holds c.requires.used_long c.requires.choice) })

pub returns-in-Some : goal.returns-in-Some
returns-in-Some c =
    record {
      kept = tried_kept (rw c.in-Some.is at c.attempt.ensures.tried);
      first_found = λ s F B h.
          let r = branch_walked c.requires.begun h B c.requires.choice c.requires.consistent (rw c.in-Some.is at (c.attempt.ensures.arrives c.requires.choice.exit.reached)) in
          FirstFound.found r.0 (omega (arith, r.1, rw c.in-Some.is at c.attempt.ensures.cost_is));
    }

pub exact_path-requires : goal.exact_path-requires
exact_path-requires c =
    let back = c.attempt.ensures.back in
    rw back.flags (record { used_long = c.requires.used_long; begun = record { laid = laid_kept back.kept c.attempt.auto.path c.requires.begun.laid; some = c.requires.begun.some; barred_long = c.requires.begun.barred_long }; ahead = c.requires.ahead })

pub returns : goal.returns
returns c =
    let back = c.attempt.ensures.back in
    record { kept = kept_again back c.exact_path.ensures.kept; first_found = λ s F B h. rw back.kept at (c.exact_path.ensures.first_found s F (rw back.kept B) h) }
