-- `branches::enter`: without a path the branch is empty, or its paths cost too much; its first path is put in at its place, or falls out at once. Assumes nothing.
use Prim.Native.Nat.{ℕ, ◌-◌, ◌≤◌}
use native.Mathlib.Omega.{arith}
use mathlib.Core.Path.{refl, sym, ap, ◌∙◌}
use mathlib.Core.Logic.{⊎_elim}
use lib.ListN.{get_or}
use lib.Seq.{length-take-le}
use Rattle.candidates.specs.Slots.{none, entries}
use Rattle.candidates.proofs.EntryLaws.{kept_readable, length_entries}
use Rattle.branching.proofs.FirstLaws.{extent_tail, within_tail, within_empty}
use Rattle.ranking.proofs.EnterLaws.{restored, unchanged, path_small, still_consistent, goal_ahead, rest_short, settled_empty, settled_dear, settled_found, entered_found, same_found, settled_out, changed_put, settled_put}
use Rattle.ranking.proofs.branches.enter.Goals as goal

pub most_wanted-most-requires : goal.most_wanted-most-requires
most_wanted-most-requires c =
    let F = c.requires.filled in (F.some, F.kept.upto)

pub first_path-requires : goal.first_path-requires
first_path-requires c =
    let q = c.args.query.now in
    let W = c.most_wanted-most.ensures in
    let D = c.requires.deviation in
    rw D.begun.laid.flags_long (record { used_long = refl; begun = D.begun; ahead = goal_ahead q.graph.holds q.posed D; consistent = still_consistent q.graph.holds q.posed D; small = q.posed.small; most_small = W.small; choice = c.requires.choice })

pub returns-in_default : goal.returns-in_default
returns-in_default c =
    let q = c.args.query.now in
    let R = restored c.first_path.ensures.kept in
    let W = c.most_wanted-most.ensures in
    let result = c.first_path.ensures.first_within _ _ c.requires.deviation.begins c.requires.deviation.flagged in
    let count_is = length_entries q.graph.nodes c.args.work.now c.args.detour.count in
    let F = c.requires.filled in
    record {
      restored = R;
      changed = unchanged F;
      settled = λ limit. ⊎_elim (settled_empty q.graph.holds q.posed c.requires.deviation _ limit F.entered)
          (λ d. let z = ap (λ (k : ℕ). (get_or (entries q.graph.nodes c.args.work.now c.args.detour.count) (k - 1) none).cost) (W.full d.2) in settled_dear q.graph.holds q.posed c.requires.deviation _ limit F.entered d.0 d.3 (count_is ∙ W.full d.2) F.some (omega (arith, z, W.last d.2, d.1)))
          (within_empty result c.in_default.is);
    }

pub invariant_of-entries : goal.invariant_of-entries
invariant_of-entries c = record { readable = kept_readable c.requires.filled.kept }

pub invariant_of-routes : goal.invariant_of-routes
invariant_of-routes c = record { family = c.requires.filled.entered.family }

pub place_for-place-requires : goal.place_for-place-requires
place_for-place-requires c =
    let q = c.args.query.now in
    omega (arith, c.requires.filled.entered.border, length_entries q.graph.nodes c.args.work.now c.args.detour.count)

pub returns-then-place-slots : goal.returns-then-place-slots
returns-then-place-slots c =
    let q = c.args.query.now in
    let R = restored c.first_path.ensures.kept in
    let first = within_tail (c.first_path.ensures.first_within _ _ c.requires.deviation.begins c.requires.deviation.flagged) c.in-Some.is in
    let extent = extent_tail c.first_path.ensures.kept.reach c.in-Some.is in
    let count_is = length_entries q.graph.nodes c.args.work.now c.args.detour.count in
    let F = c.requires.filled in
    record { restored = R; changed = unchanged F; settled = settled_out q.graph.holds q.posed c.requires.deviation c.first_path.new.path c.in-Some.field-0.len R.kept extent.0 extent.1 c.in-Some.field-0.cost _ first.0 first.1 refl _ _ F.entered c.place_for-place.ensures c.if-place-slots.true (omega (arith, count_is, F.kept.upto)) }

pub insert-requires : goal.insert-requires
insert-requires c =
    let q = c.args.query.now in
    let R = restored c.first_path.ensures.kept in
    let first = within_tail (c.first_path.ensures.first_within _ _ c.requires.deviation.begins c.requires.deviation.flagged) c.in-Some.is in
    let extent = extent_tail c.first_path.ensures.kept.reach c.in-Some.is in
    let count_is = length_entries q.graph.nodes c.args.work.now c.args.detour.count in
    record { kept = c.requires.filled.kept; inside = (omega (arith, c.place_for-place.ensures.upper, count_is), omega (arith, c.place_for-place.ensures.upper, count_is, c.requires.filled.kept.upto)); tail_short = rest_short q.graph.holds q.posed c.requires.deviation c.first_path.new.path c.in-Some.field-0.len R.kept extent.0 extent.1 first.0.member.path }

pub returns : goal.returns
returns c =
    let q = c.args.query.now in
    let R = restored c.first_path.ensures.kept in
    let first = within_tail (c.first_path.ensures.first_within _ _ c.requires.deviation.begins c.requires.deviation.flagged) c.in-Some.is in
    let extent = extent_tail c.first_path.ensures.kept.reach c.in-Some.is in
    let count_is = length_entries q.graph.nodes c.args.work.now c.args.detour.count in
    let D = c.requires.deviation in
    let F = c.requires.filled in
    let room : c.args.detour.parent ≤ q.slots = omega (arith, F.entered.border, count_is, F.kept.upto) in
    let T = F.entered in
    record { restored = R; changed = changed_put c.insert.ensures (entered_found q.graph.holds q.posed D c.first_path.new.path c.in-Some.field-0.len R.kept extent.0 extent.1 c.in-Some.field-0.cost _ first.0 first.1 refl _ _ T c.place_for-place.ensures room) (same_found q.graph.holds q.posed D c.first_path.new.path c.in-Some.field-0.len R.kept extent.0 extent.1 c.in-Some.field-0.cost _ first.0 first.1 refl _ _ T c.place_for-place.ensures room); settled = λ limit. settled_put c.insert.ensures (settled_found q.graph.holds q.posed D c.first_path.new.path c.in-Some.field-0.len R.kept extent.0 extent.1 c.in-Some.field-0.cost _ first.0 first.1 refl _ _ T c.place_for-place.ensures limit) }

pub overflow_add-cost : goal.overflow_add-cost
overflow_add-cost c =
    let q = c.args.query.now in
    let first = within_tail (c.first_path.ensures.first_within _ _ c.requires.deviation.begins c.requires.deviation.flagged) c.in-Some.is in
    omega (arith, first.1, path_small q.graph.holds q.posed first.0.member.path, c.requires.deviation.costs)

pub slice_bounds-place_for-end : goal.slice_bounds-place_for-end
slice_bounds-place_for-end c =
    (extent_tail c.first_path.ensures.kept.reach c.in-Some.is).1

pub slice_bounds-place_for-end-2 : goal.slice_bounds-place_for-end-2
slice_bounds-place_for-end-2 c =
    let extent = extent_tail c.first_path.ensures.kept.reach c.in-Some.is in
    sym (length-take-le c.in-Some.field-0.len c.first_path.new.path extent.1)

pub overflow_cast-new-2 : goal.overflow_cast-new-2
overflow_cast-new-2 c =
    let q = c.args.query.now in
    let count_is = length_entries q.graph.nodes c.args.work.now c.args.detour.count in
    omega (arith, c.requires.deviation.fits.known, c.requires.filled.entered.border, count_is, c.requires.filled.kept.upto, c.requires.filled.few)

pub slice_bounds-new-count : goal.slice_bounds-new-count
slice_bounds-new-count c =
    omega (arith, extent_tail c.first_path.ensures.kept.reach c.in-Some.is)

pub slice_bounds-new-start : goal.slice_bounds-new-start
slice_bounds-new-start c =
    omega (arith, extent_tail c.first_path.ensures.kept.reach c.in-Some.is)

pub slice_bounds-new-end : goal.slice_bounds-new-end
slice_bounds-new-end c =
    (extent_tail c.first_path.ensures.kept.reach c.in-Some.is).1
