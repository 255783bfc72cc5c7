-- `packing::unpack::unpack` meets its contract. Assumes nothing.
use Prim.Native.Nat.{ℕ, ◌*◌}
use native.Mathlib.Omega.{arith}
use mathlib.Core.Path.{◌≡◌, sym, ◌∙◌, ap, ap₂}
use mathlib.Core.List.{List, ◌++◌}
use lib.ListN.{length, drop, length-drop}
use Rattle.image.specs.Bytes.{decode}
use Rattle.image.specs.Outcome.{gives, sound, fault}
use Rattle.image.specs.Answers.{answer, size_list}
use Rattle.image.proofs.OutcomeLaws.{then_fault, then_sound, outcome_fault, outcome_sound, after_fault}
use Rattle.image.proofs.ByteLaws.{AllBytes, all_bytes, as_read}
use Rattle.image.proofs.SliceLaws.{to_end}
use Rattle.image.proofs.CheckLaws.{same_sizes, rejected, costs_start_is}
use Rattle.packing.specs.Calls.{unpack_fault, unpack_outcome}
use Rattle.packing.specs.RoundTrip.{WritesAgain}
use Rattle.packing.proofs.UnpackLaws.{unpackable, short_nodes, short_costs, room, nodes_after, costs_after}
use Rattle.packing.proofs.RoundTripLaws.{writes_again}
use Rattle.packing.proofs.unpack.unpack.Goals as goal
use Rattle.packing.proofs.unpack.unpack.Goals.{then-nodes-nodes_needed-via-then-nodes-nodes_needed, then-nodes-nodes_needed-via-else-nodes-nodes_needed+then-costs-costs_needed}

again : (b : List ℕ) (x y : ℕ) → AllBytes b → unpack_fault b x y ≡ sound → WritesAgain b
unfolding unpack_fault
again b x y bytes e = writes_again b (then_sound _ _ e).0 bytes

pub returns-in_default : goal.returns-in_default
unfolding unpack_outcome unpack_fault
returns-in_default c =
    let e = rejected c.args.image.now c.in_default.ensures in
    record { result_value = ap (answer size_list) c.in_default.is ∙ sym (outcome_fault _ (then_fault _ e)); nodes_after = sym (after_fault _ _ (then_fault _ e)); costs_after = sym (after_fault _ _ (then_fault _ e)); writes_again = again _ _ _ (all_bytes _ (λ i. (c.type_inv.image i).fits)) }

pub cost_count-costs_needed-requires : goal.cost_count-costs_needed-requires
cost_count-costs_needed-requires c = let u = unpackable c.in-Ok.ensures in (u.arcs_to, u.columns_to)

pub returns-then-nodes-nodes_needed : goal.returns-then-nodes-nodes_needed
unfolding unpack_outcome
returns-then-nodes-nodes_needed c =
    let u = unpackable c.in-Ok.ensures in
    let e : unpack_fault c.args.image.now (length c.args.nodes.now) (length c.args.costs.now) ≡ fault 13 0 =
    elim c.then-nodes-nodes_needed.branch [
      | then-nodes-nodes_needed-via-then-nodes-nodes_needed w ↦ short_nodes u _ _ w.if-nodes-nodes_needed.true
      | then-nodes-nodes_needed-via-else-nodes-nodes_needed+then-costs-costs_needed w ↦ short_costs u _ _ (rw c.cost_count-costs_needed.ensures.0 at w.if-costs-costs_needed.true)
    ] in
    record { result_value = sym (outcome_fault _ e); nodes_after = sym (after_fault _ _ e); costs_after = sym (after_fault _ _ e); writes_again = again _ _ _ (all_bytes _ (λ i. (c.type_inv.image i).fits)) }

pub read_words-requires : goal.read_words-requires
read_words-requires c =
    let u = unpackable c.in-Ok.ensures in
    (rw to_end (omega (arith, length-drop 24 c.args.image.now, u.long)), c.if-nodes-nodes_needed.false)

pub costs_start-start-requires : goal.costs_start-start-requires
costs_start-start-requires c = (unpackable c.in-Ok.ensures).arcs_to

pub read_words-requires-2 : goal.read_words-requires-2
read_words-requires-2 c =
    let u = unpackable c.in-Ok.ensures in
    (rw to_end (omega (arith, length-drop c.costs_start-start.result c.args.image.now, u.long, c.costs_start-start.ensures, costs_start_is c.in-Ok.sizes.m, c.cost_count-costs_needed.ensures.0)), c.if-costs-costs_needed.false)

pub returns : goal.returns
unfolding unpack_outcome
returns c =
    let u = unpackable c.in-Ok.ensures in
    let e = room u _ _ c.if-nodes-nodes_needed.false (rw c.cost_count-costs_needed.ensures.0 at c.if-costs-costs_needed.false) in
    let nodes-part = ap (λ (l : List ℕ). decode 2 (2 * c.in-Ok.sizes.m) l ++ drop (2 * c.in-Ok.sizes.m) c.args.nodes.now) (to_end c.args.image.now 24) in
    let costs-part = ap (λ (l : List ℕ). decode 4 c.cost_count-costs_needed.result l ++ drop c.cost_count-costs_needed.result c.args.costs.now) (to_end c.args.image.now c.costs_start-start.result) in
    let counted = ap₂ (λ (x i : ℕ). decode 4 x (drop i c.args.image.now) ++ drop x c.args.costs.now) c.cost_count-costs_needed.ensures.0 c.costs_start-start.ensures in
    record { result_value = ap gives (same_sizes c.args.image.now u.sizes) ∙ sym (outcome_sound _ e); nodes_after = as_read 2 _ _ c.args.nodes.now c.read_words.ensures ∙ nodes-part ∙ nodes_after u _ _ c.args.nodes.now e; costs_after = as_read 4 _ _ c.args.costs.now c.read_words-2.ensures ∙ costs-part ∙ counted ∙ costs_after u _ _ c.args.costs.now e; writes_again = again _ _ _ (all_bytes _ (λ i. (c.type_inv.image i).fits)) }

pub slice_bounds-read_words-count : goal.slice_bounds-read_words-count
slice_bounds-read_words-count c = omega (arith, (unpackable c.in-Ok.ensures).long)

pub slice_bounds-read_words-start : goal.slice_bounds-read_words-start
slice_bounds-read_words-start c = omega (arith, (unpackable c.in-Ok.ensures).long)

pub slice_bounds-read_words-count-2 : goal.slice_bounds-read_words-count-2
slice_bounds-read_words-count-2 c = omega (arith, (unpackable c.in-Ok.ensures).long, c.costs_start-start.ensures, costs_start_is c.in-Ok.sizes.m)

pub slice_bounds-read_words-start-2 : goal.slice_bounds-read_words-start-2
slice_bounds-read_words-start-2 c = omega (arith, (unpackable c.in-Ok.ensures).long, c.costs_start-start.ensures, costs_start_is c.in-Ok.sizes.m)
