-- `image::check::check_body` meets its contract. Assumes nothing.
use Prim.Native.Nat.{ℕ, ◌+◌, ◌*◌, ◌-◌, ◌<◌}
use native.Mathlib.Omega.{arith}
use mathlib.Core.Path.{◌≡◌, sym, ◌∙◌, ap, ap₂}
use mathlib.Core.List.{List}
use lib.ListN.{length, get_or, take, drop, length-drop}
use Rattle.image.specs.Bytes.{field, decode}
use Rattle.image.specs.Outcome.{Fault}
use Rattle.image.specs.Rows.{pairs, arcs_fault, costs_fault, lists_fault}
use Rattle.image.specs.Layout.{costs_start, nodes_in, costs_in}
use Rattle.image.proofs.ByteLaws.{length_decode, decode_at}
use Rattle.image.proofs.RowLaws.{length_pairs, pairs_at}
use Rattle.image.proofs.OutcomeLaws.{then_fault, then_next, outcome_fault, outcome_sound}
use Rattle.image.proofs.AnswerLaws.{handed_on}
use Rattle.image.proofs.SliceLaws.{to_end}
use Rattle.image.proofs.CheckLaws.{total_is, costs_start_is}
use Rattle.image.proofs.check.check_body.Goals as goal

-- record i holds arc i
record_at : (b : List ℕ) (m i : ℕ) (arc : ℕ × ℕ) → i < m → arc ≡ (field 2 b (4 * i), field 2 b (4 * i + 2)) → get_or (pairs m (decode 2 (2 * m) b)) i (0, 0) ≡ arc
record_at b m i arc h e =
    let tail_at : 2 * (2 * i) ≡ 4 * i = omega arith in
    let head_at : 2 * (2 * i + 1) ≡ 4 * i + 2 = omega arith in
    pairs_at m (decode 2 (2 * m) b) i h
    ∙ ap₂ (λ (t h : ℕ). (t, h)) (decode_at 2 (2 * m) b (2 * i) (omega arith) ∙ ap (field 2 b) tail_at) (decode_at 2 (2 * m) b (2 * i + 1) (omega arith) ∙ ap (field 2 b) head_at)
    ∙ sym e

-- what is told of the arcs and of the costs that stand in a part of the image
arcs_told : (b : List ℕ) (m n : ℕ) {f : Fault}
    → ((arcs : List (ℕ × ℕ)) → length arcs ≡ m → ((i : ℕ) (a : ℕ × ℕ) → i < m → a ≡ (field 2 (take (length b - 24) (drop 24 b)) (4 * i), field 2 (take (length b - 24) (drop 24 b)) (4 * i + 2)) → get_or arcs i (0, 0) ≡ a) → f ≡ arcs_fault n (0, 0) 0 arcs)
    → arcs_fault n (0, 0) 0 (pairs m (nodes_in m b)) ≡ f
unfolding nodes_in
arcs_told b m n told =
    let part = take (length b - 24) (drop 24 b) in
    sym (told (pairs m (decode 2 (2 * m) part)) (length_pairs m _) (record_at part m) ∙ ap (λ l. arcs_fault n (0, 0) 0 (pairs m (decode 2 (2 * m) l))) (to_end b 24))

costs_told : (b : List ℕ) (m k e : ℕ) {count start : ℕ} {f : Fault} → count ≡ m * k → start ≡ costs_start m
    → ((costs : List ℕ) → length costs ≡ count → ((i x : ℕ) → i < count → x ≡ field 4 (take (length b - start) (drop start b)) (4 * i) → get_or costs i 0 ≡ x) → f ≡ costs_fault e 0 costs)
    → costs_fault e 0 (costs_in m k b) ≡ f
unfolding costs_in
costs_told b m k e {count} {start} counted from told =
    let part = take (length b - start) (drop start b) in
    sym (told (decode 4 count part) (length_decode 4 count part) (λ i x h read. decode_at 4 count part i h ∙ sym read) ∙ rw (to_end, counted, from))

pub check_arcs-requires-clause-callable : goal.check_arcs-requires-clause-callable
check_arcs-requires-clause-callable c i h = rw to_end (omega (arith, h, length-drop 24 c.args.image.now, total_is c.args.sizes.m c.args.sizes.k, costs_start_is c.args.sizes.m))

pub returns-in_err-check_arcs : goal.returns-in_err-check_arcs
unfolding lists_fault
returns-in_err-check_arcs c =
    handed_on _ _ _ c.from_residual.ensures.1 ∙ sym (outcome_fault _ (then_fault _ (arcs_told _ _ _ c.in_err-check_arcs.ensures)))

pub check_costs-requires-clause-callable : goal.check_costs-requires-clause-callable
check_costs-requires-clause-callable c i h = rw to_end (omega (arith, h, length-drop c.costs_start.result c.args.image.now, total_is c.args.sizes.m c.args.sizes.k, c.costs_start.ensures, c.cost_count.ensures.0))

pub returns-in_err-check_costs : goal.returns-in_err-check_costs
unfolding lists_fault
returns-in_err-check_costs c =
    let costs = costs_told _ _ _ _ c.cost_count.ensures.0 c.costs_start.ensures c.in_err-check_costs.ensures in
    handed_on _ _ _ c.from_residual-in_err-check_costs.ensures.1 ∙ sym (outcome_fault _ (then_next _ (arcs_told _ _ _ c.in_ok-check_arcs.ensures) ∙ costs))

pub returns : goal.returns
unfolding lists_fault
returns c =
    let costs = costs_told _ _ _ _ c.cost_count.ensures.0 c.costs_start.ensures c.in_ok-check_costs.ensures in
    sym (outcome_sound _ (then_next _ (arcs_told _ _ _ c.in_ok-check_arcs.ensures) ∙ costs))

pub slice_bounds-records-count : goal.slice_bounds-records-count
slice_bounds-records-count c = omega (arith, total_is c.args.sizes.m c.args.sizes.k, costs_start_is c.args.sizes.m)

pub slice_bounds-records-start : goal.slice_bounds-records-start
slice_bounds-records-start c = omega (arith, total_is c.args.sizes.m c.args.sizes.k, costs_start_is c.args.sizes.m)

pub slice_bounds-costs-count : goal.slice_bounds-costs-count
slice_bounds-costs-count c = omega (arith, total_is c.args.sizes.m c.args.sizes.k, c.costs_start.ensures)

pub slice_bounds-costs-start : goal.slice_bounds-costs-start
slice_bounds-costs-start c = omega (arith, total_is c.args.sizes.m c.args.sizes.k, c.costs_start.ensures)
