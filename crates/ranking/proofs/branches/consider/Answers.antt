-- `branches::consider`: each test that leaves the branch out settles it, and so does its first path. Assumes nothing.
use Prim.Native.Nat.{◌+◌, ◌-◌, ◌<◌}
use native.Mathlib.Omega.{arith}
use mathlib.Core.Path.{refl, ◌∙◌}
use lib.ListN.{get_or}
use Rattle.candidates.proofs.EntryLaws.{kept_readable, length_entries}
use Rattle.ranking.proofs.EnterLaws.{dear_facts, unchanged, choice_small, choice_floor, settled_none, settled_beyond, settled_dear}
use Rattle.branching.proofs.LaidLaws.{laid_place}
use Rattle.ranking.proofs.branches.consider.Goals as goal

pub least_exit-requires : goal.least_exit-requires
least_exit-requires c =
    let q = c.args.query.now in
    let last_place : get_or c.args.path.now (c.args.detour.d - 1) 0 < q.graph.nodes + 1 = let b = c.requires.deviation.begun in laid_place (c.args.detour.d - 1) (omega (arith, b.some)) b.laid in
    let b = c.requires.deviation.begun in
    rw q.posed.small.long (record { node = last_place; labels_long = refl; small = q.posed.small; used_long = b.laid.flags_long; barred_long = b.barred_long })

pub returns-in_default : goal.returns-in_default
returns-in_default c =
    let q = c.args.query.now in
    record { restored = record { flags = refl; kept = refl }; changed = unchanged c.requires.filled; settled = settled_none q.graph.holds q.posed c.requires.deviation _ _ c.requires.filled.entered (rw c.in_default.is at c.least_exit.ensures.chosen) }

pub returns-then-limit-bound : goal.returns-then-limit-bound
returns-then-limit-bound c =
    let q = c.args.query.now in
    let choice = c.in-Some.ensures.chosen in
    record { restored = record { flags = refl; kept = refl }; changed = unchanged c.requires.filled; settled = settled_beyond q.graph.holds q.posed c.requires.deviation _ _ c.requires.filled.entered c.in-Some.step.rest (choice_floor q.graph.holds q.posed c.requires.deviation choice) c.if-limit-bound.true }

pub too_dear-requires : goal.too_dear-requires
too_dear-requires c = c.requires.filled.some

pub invariant_of-entries : goal.invariant_of-entries
invariant_of-entries c = record { readable = kept_readable c.requires.filled.kept }

pub returns-then-too_dear : goal.returns-then-too_dear
returns-then-too_dear c =
    let q = c.args.query.now in
    let choice = c.in-Some.ensures.chosen in
    let F = c.requires.filled in
    let d = dear_facts c.too_dear.ensures c.if-too_dear.true in
    record { restored = record { flags = refl; kept = refl }; changed = unchanged F; settled = settled_dear q.graph.holds q.posed c.requires.deviation _ _ F.entered c.in-Some.step.rest (choice_floor q.graph.holds q.posed c.requires.deviation choice) (length_entries q.graph.nodes c.args.work.now c.args.detour.count ∙ d.0) F.some d.1 }

pub enter-requires : goal.enter-requires
enter-requires c =
    let choice = c.in-Some.ensures.chosen in
    record { filled = c.requires.filled; deviation = c.requires.deviation; choice = choice }

pub returns : goal.returns
returns c =
    record { restored = c.enter.ensures.restored; changed = c.enter.ensures.changed; settled = c.enter.ensures.settled _ }

pub overflow_add-bound : goal.overflow_add-bound
overflow_add-bound c =
    let q = c.args.query.now in
    let choice = c.in-Some.ensures.chosen in
    omega (arith, choice_small q.graph.holds q.posed choice, c.requires.deviation.small)
