-- `packing::build::build` meets its contract. Assumes nothing.
use Rattle.packing.proofs.RoundTripLaws.{reads_back}
use Prim.Native.Nat.{ℕ, ◌+◌, ◌*◌, ◌≤◌}
use native.Mathlib.Omega.{arith}
use mathlib.Core.Path.{◌≡◌, sym, ◌∙◌, ap, subst}
use mathlib.Core.List.{[], ◌∷◌, ◌++◌}
use lib.ListN.{length, take, drop}
use Rattle.image.specs.Bytes.{encode}
use Rattle.image.specs.Outcome.{gives}
use Rattle.image.specs.Layout.{half}
use Rattle.packing.specs.Calls.{build_outcome}
use Rattle.image.proofs.OutcomeLaws.{outcome_fault, outcome_sound, after_fault, after_sound}
use Rattle.image.proofs.AnswerLaws.{handed_on}
use Rattle.image.proofs.ByteLaws.{as_written}
use Rattle.image.proofs.CheckLaws.{total_is, costs_start_is}
use Rattle.packing.proofs.BuildLaws.{BuildSound, build_sound, edition_to, twice_half, image_written}
use Rattle.packing.proofs.build.build.Goals as goal

pub returns-in_err-check_lists : goal.returns-in_err-check_lists
unfolding build_outcome
returns-in_err-check_lists c =
    let f = sym c.in_err-check_lists.ensures in
    record { result_value = handed_on _ _ _ c.from_residual.ensures.1 ∙ sym (outcome_fault _ f); image_after = sym (after_fault _ _ f); reads_back = λ e. reads_back _ _ _ _ _ _ (build_sound _ _ _ _ _ _ e) }

pub write_header-requires : goal.write_header-requires
unfolding half
write_header-requires c =
    let passes : BuildSound c.args.edition c.args.n c.args.k c.args.nodes.now c.args.costs.now (length c.args.image.now) = build_sound _ _ _ _ _ _ (sym c.in_ok-check_lists.ensures) in
    let room : 24 + 2 * length c.args.nodes.now + 4 * length c.args.costs.now ≤ length c.args.image.now = let p = passes in let m = half c.args.nodes.now in omega (arith, p.fits, total_is m c.args.k, costs_start_is m, p.counted, twice_half c.args.edition c.args.n c.args.k c.args.nodes.now c.args.costs.now p.even p.counted) in
    let r = passes.ranges in
    (omega (arith, room), omega (arith, edition_to c.args.edition passes.taken), r.nodes_to, r.arcs_to, r.columns_to)

pub write_words-requires : goal.write_words-requires
write_words-requires c =
    let passes : BuildSound c.args.edition c.args.n c.args.k c.args.nodes.now c.args.costs.now (length c.args.image.now) = build_sound _ _ _ _ _ _ (sym c.in_ok-check_lists.ensures) in
    let room : 24 + 2 * length c.args.nodes.now + 4 * length c.args.costs.now ≤ length c.args.image.now = let p = passes in let m = half c.args.nodes.now in omega (arith, p.fits, total_is m c.args.k, costs_start_is m, p.counted, twice_half c.args.edition c.args.n c.args.k c.args.nodes.now c.args.costs.now p.even p.counted) in
    omega (arith, room, c.write_header.auto.image)

pub costs_start-requires : goal.costs_start-requires
unfolding half
costs_start-requires c =
    let passes : BuildSound c.args.edition c.args.n c.args.k c.args.nodes.now c.args.costs.now (length c.args.image.now) = build_sound _ _ _ _ _ _ (sym c.in_ok-check_lists.ensures) in
    passes.ranges.arcs_to

pub write_words-requires-2 : goal.write_words-requires-2
unfolding half
write_words-requires-2 c =
    let passes : BuildSound c.args.edition c.args.n c.args.k c.args.nodes.now c.args.costs.now (length c.args.image.now) = build_sound _ _ _ _ _ _ (sym c.in_ok-check_lists.ensures) in
    let room : 24 + 2 * length c.args.nodes.now + 4 * length c.args.costs.now ≤ length c.args.image.now = let p = passes in let m = half c.args.nodes.now in omega (arith, p.fits, total_is m c.args.k, costs_start_is m, p.counted, twice_half c.args.edition c.args.n c.args.k c.args.nodes.now c.args.costs.now p.even p.counted) in
    let p = passes in
    omega (arith, room, c.costs_start.ensures, costs_start_is (half c.args.nodes.now), twice_half c.args.edition c.args.n c.args.k c.args.nodes.now c.args.costs.now p.even p.counted, c.write_words.auto.image, c.write_header.auto.image)

pub image_length-requires : goal.image_length-requires
unfolding half
image_length-requires c =
    let passes : BuildSound c.args.edition c.args.n c.args.k c.args.nodes.now c.args.costs.now (length c.args.image.now) = build_sound _ _ _ _ _ _ (sym c.in_ok-check_lists.ensures) in
    let r = passes.ranges in (r.arcs_to, r.columns_to)

pub returns : goal.returns
unfolding build_outcome half
returns c =
    let passes : BuildSound c.args.edition c.args.n c.args.k c.args.nodes.now c.args.costs.now (length c.args.image.now) = build_sound _ _ _ _ _ _ (sym c.in_ok-check_lists.ensures) in
    let p = passes in
    let f = sym c.in_ok-check_lists.ensures in
    let costs_at = subst (λ (i : ℕ). c.write_words-2.new.image ≡ take i c.write_words.new.image ++ (encode 4 c.args.costs.now ++ drop (i + 4 * length c.args.costs.now) c.write_words.new.image)) c.costs_start.ensures (as_written 4 c.args.costs.now _ _ c.write_words-2.ensures) in
    record { result_value = ap (λ (x : ℕ). gives (x ∷ [])) c.image_length.ensures ∙ sym (outcome_sound _ f); image_after = image_written c.args.edition c.args.n c.args.k c.args.nodes.now c.args.costs.now p.even p.counted c.args.image.now c.write_header.new.image c.write_words.new.image c.write_words-2.new.image c.write_header.ensures (as_written 2 c.args.nodes.now _ _ c.write_words.ensures) costs_at ∙ sym (after_sound _ _ f); reads_back = λ c. reads_back _ _ _ _ _ _ (build_sound _ _ _ _ _ _ c) }

pub overflow_cast-m : goal.overflow_cast-m
unfolding half
overflow_cast-m c =
    let passes : BuildSound c.args.edition c.args.n c.args.k c.args.nodes.now c.args.costs.now (length c.args.image.now) = build_sound _ _ _ _ _ _ (sym c.in_ok-check_lists.ensures) in
    omega (arith, passes.ranges.arcs_to)
