-- `splitting::deviations`. The loop: the parts that leave the path after d nodes or more have been looked into. Assumes nothing.
use Prim.Native.Nat.{◌+◌, ◌-◌}
use native.Mathlib.Omega.{arith}
use mathlib.Core.Path.{◌≡◌, refl, sym, ◌∙◌}
use Rattle.candidates.proofs.EntryLaws.{length_entries}
use Rattle.ranking.proofs.BackLaws.{back_some, back_linked, back_rest, back_le, along_back, going_start, going_filled, going_shared, going_more, going_next, going_end}
use Rattle.ranking.proofs.splitting.deviations.Goals as goal

pub loop-d-init : goal.loop-d-init
loop-d-init c = going_start c.requires.filled c.requires.along

pub step_back-behind-requires : goal.step_back-behind-requires
step_back-behind-requires c =
    let now_filled = going_filled c.requires.filled c.loop-d.invariant in
    let place = c.loop-d.invariant.place in
    let more = going_more c.requires.filled c.loop-d.invariant c.requires.shared_is c.loop-d-test.true in
    let z : c.loop-d.d - 1 + 1 ≡ c.loop-d.d = omega (arith, c.loop-d-test.true) in
    rw place.laid.flags_long (record { places = refl; laid = (rw z place.laid, back_some now_filled.entered place more) })

pub deviate-now-requires : goal.deviate-now-requires
deviate-now-requires c =
    let now_filled = going_filled c.requires.filled c.loop-d.invariant in
    let place = c.loop-d.invariant.place in
    let more = going_more c.requires.filled c.loop-d.invariant c.requires.shared_is c.loop-d-test.true in
    let arc = c.step_back-behind.ensures.value (back_linked now_filled.entered place more) in
    let back_place = along_back now_filled.entered place more c.loop-d.invariant.rest refl arc (rw place.laid.flags_long at c.step_back-behind.ensures.one_less) in
    let own : c.args.stem.rank + 1 - 1 ≡ c.args.stem.rank = omega arith in
    rw own (record { ranked = omega arith; filled = now_filled; along = back_place; inside = omega (arith, more, place.upper) })

pub loop-d-preserved : goal.loop-d-preserved
loop-d-preserved c =
    let now_filled = going_filled c.requires.filled c.loop-d.invariant in
    let place = c.loop-d.invariant.place in
    let more = going_more c.requires.filled c.loop-d.invariant c.requires.shared_is c.loop-d-test.true in
    let arc = c.step_back-behind.ensures.value (back_linked now_filled.entered place more) in
    let back_place = along_back now_filled.entered place more c.loop-d.invariant.rest refl arc (rw place.laid.flags_long at c.step_back-behind.ensures.one_less) in
    going_next c.requires.filled c.loop-d.invariant more back_place (back_rest now_filled.entered place more c.loop-d.invariant.rest refl arc) c.deviate-now.ensures.restored c.deviate-now.ensures.barred_same c.deviate-now.ensures.changed c.deviate-now.ensures.settled c.deviate-now.auto.path

pub returns : goal.returns
returns c =
    let z : c.args.stem.shared ≡ c.loop-d.d = omega (arith, going_shared c.requires.filled c.loop-d.invariant, c.requires.shared_is, c.loop-d.invariant.place.lower, c.loop-d-test.false) in
    record { changed = c.loop-d.invariant.changed; emptied = going_end c.requires.filled c.loop-d.invariant (sym z ∙ c.requires.shared_is) }

pub overflow_add-behind : goal.overflow_add-behind
overflow_add-behind c =
    let now_filled = going_filled c.requires.filled c.loop-d.invariant in
    let place = c.loop-d.invariant.place in
    let more = going_more c.requires.filled c.loop-d.invariant c.requires.shared_is c.loop-d-test.true in
    let arc = c.step_back-behind.ensures.value (back_linked now_filled.entered place more) in
    let rest_within = back_le now_filled.entered place more c.loop-d.invariant.rest refl arc in
    omega (arith, rest_within, c.requires.along.small)

pub overflow_sub-before : goal.overflow_sub-before
overflow_sub-before c =
    let now_filled = going_filled c.requires.filled c.loop-d.invariant in
    let place = c.loop-d.invariant.place in
    let more = going_more c.requires.filled c.loop-d.invariant c.requires.shared_is c.loop-d-test.true in
    let arc = c.step_back-behind.ensures.value (back_linked now_filled.entered place more) in
    let rest_within = back_le now_filled.entered place more c.loop-d.invariant.rest refl arc in
    rest_within

pub overflow_add-detour : goal.overflow_add-detour
overflow_add-detour c =
    omega (arith, c.requires.filled.entered.border, length_entries c.args.query.now.graph.nodes c.args.work.now c.args.count, c.requires.filled.kept.upto, c.requires.filled.few)
