-- `packing::build::check_lists` meets its contract. Assumes nothing.
use Prim.Native.Nat.{ℕ, ◌+◌, ◌*◌, ◌/◌, ◌%◌, ◌≤◌, ◌<◌}
use mathlib.Core.Path.{◌≡◌, refl, sym, ◌∙◌}
use mathlib.Core.Bool.{true, ◌&&◌}
use mathlib.Core.List.{List}
use lib.Dec.{leb, ltb}
use lib.ListN.{length, get_or}
use borrow.Author.Tests.{lt-ltb, le-ltb}
use Rattle.image.specs.Outcome.{Fault, row, ◌then◌}
use Rattle.image.specs.Rows.{in_range, pairs, arcs_fault, costs_fault, lists_fault}
use Rattle.image.specs.Layout.{total, half}
use Rattle.image.proofs.RowLaws.{length_pairs, pairs_at}
use Rattle.image.proofs.OutcomeLaws.{then_fault, then_next}
use Rattle.image.proofs.AnswerLaws.{handed_verdict}
use Rattle.image.proofs.CheckLaws.{in_range_true}
use Rattle.packing.specs.Calls.{build_fault}
use Rattle.packing.proofs.BuildLaws.{too_many, row_2, row_3, row_4_odd, row_4_costs, lists_decide}
use Rattle.packing.proofs.build.check_lists.Goals as goal
use Rattle.packing.proofs.build.check_lists.Goals.{then-m-gt1000-via-then-m-gt1000, then-m-gt1000-via-else-m-gt1000+then-not-in_range, then-nodes-ne0-via-then-nodes-ne0, then-nodes-ne0-via-else-nodes-ne0+then-costs-cost_count}

-- past row 4 the lists decide, and the room
passed : (e n k : ℕ) (nodes costs : List ℕ) (room : ℕ) {count : ℕ} → true ≡ (leb 1 e && leb e 2) → true ≡ in_range n (length nodes / 2) k → length nodes % 2 ≡ 0 → length costs ≡ count → count ≡ length nodes / 2 * k
    → build_fault e n k nodes costs room ≡ (lists_fault e n (pairs (length nodes / 2) nodes) costs then row 13 0 (ltb room (total (length nodes / 2) k)))
unfolding half
passed e n k nodes costs room taken ranges even counted is = lists_decide e n k nodes costs room (sym taken) (sym ranges) even (counted ∙ is)

-- what is told of the arcs and of the costs
arcs_told : (nodes : List ℕ) (m n : ℕ) {f : Fault}
    → ((arcs : List (ℕ × ℕ)) → length arcs ≡ m → ((i : ℕ) (a : ℕ × ℕ) → i < m → a ≡ (get_or nodes (2 * i) 0, get_or nodes (2 * i + 1) 0) → get_or arcs i (0, 0) ≡ a) → f ≡ arcs_fault n (0, 0) 0 arcs)
    → f ≡ arcs_fault n (0, 0) 0 (pairs m nodes)
arcs_told nodes m n told = told (pairs m nodes) (length_pairs m nodes) (λ i a h e. pairs_at m nodes i h ∙ sym e)

costs_told : (costs : List ℕ) (e : ℕ) {f : Fault}
    → ((cs : List ℕ) → length cs ≡ length costs → ((i x : ℕ) → i < length costs → x ≡ get_or costs i 0 → get_or cs i 0 ≡ x) → f ≡ costs_fault e 0 cs)
    → f ≡ costs_fault e 0 costs
costs_told costs e told = told costs refl (λ i x h read. sym read)

bounded : (n : ℕ) {m k : ℕ} → true ≡ in_range n m k → (m ≤ 1000) × (k ≤ 8)
bounded n e = let r = in_range_true (sym e) in (r.arcs_to, r.columns_to)

pub returns-then-not-is_taken : goal.returns-then-not-is_taken
returns-then-not-is_taken c = sym (row_2 _ _ _ _ _ _ (sym c.if-not-is_taken.ensures))

pub returns-then-m-gt1000 : goal.returns-then-m-gt1000
unfolding half
returns-then-m-gt1000 c =
    elim c.then-m-gt1000.branch [
      | then-m-gt1000-via-then-m-gt1000 w ↦ sym (row_3 _ _ _ _ _ _ (sym c.if-not-is_taken.ensures) (too_many c.args.n _ c.args.k w.if-m-gt1000.true))
      | then-m-gt1000-via-else-m-gt1000+then-not-in_range w ↦ sym (row_3 _ _ _ _ _ _ (sym c.if-not-is_taken.ensures) (sym w.if-not-in_range.ensures))
    ]

pub cost_count-requires : goal.cost_count-requires
cost_count-requires c = bounded _ c.if-not-in_range.ensures

pub returns-then-nodes-ne0 : goal.returns-then-nodes-ne0
unfolding half
returns-then-nodes-ne0 c =
    elim c.then-nodes-ne0.branch [
      | then-nodes-ne0-via-then-nodes-ne0 w ↦ sym (row_4_odd _ _ _ _ _ _ (sym c.if-not-is_taken.ensures) (sym c.if-not-in_range.ensures) w.if-nodes-ne0.true)
      | then-nodes-ne0-via-else-nodes-ne0+then-costs-cost_count w ↦ sym (row_4_costs _ _ _ _ _ _ (sym c.if-not-is_taken.ensures) (sym c.if-not-in_range.ensures) w.if-nodes-ne0.false (λ e. w.if-costs-cost_count.true (e ∙ sym w.cost_count.ensures.0)))
    ]

pub returns-in_err-check_arcs : goal.returns-in_err-check_arcs
unfolding lists_fault
returns-in_err-check_arcs c =
    handed_verdict _ _ c.from_residual.ensures.1
    ∙ sym (passed _ _ _ _ _ _ c.if-not-is_taken.ensures c.if-not-in_range.ensures c.if-nodes-ne0.false c.if-costs-cost_count.false c.cost_count.ensures.0 ∙ then_fault _ (then_fault _ (sym (arcs_told c.args.nodes.now _ c.args.n c.in_err-check_arcs.ensures))))

pub returns-in_err-check_costs : goal.returns-in_err-check_costs
unfolding lists_fault
returns-in_err-check_costs c =
    handed_verdict _ _ c.from_residual-in_err-check_costs.ensures.1
    ∙ sym (passed _ _ _ _ _ _ c.if-not-is_taken.ensures c.if-not-in_range.ensures c.if-nodes-ne0.false c.if-costs-cost_count.false c.cost_count.ensures.0 ∙ then_fault _ (then_next _ (sym (arcs_told c.args.nodes.now _ c.args.n c.in_ok-check_arcs.ensures)) ∙ sym (costs_told c.args.costs.now c.args.edition c.in_err-check_costs.ensures)))

pub image_length-requires : goal.image_length-requires
image_length-requires c = bounded _ c.if-not-in_range.ensures

pub returns-then-room-image_length : goal.returns-then-room-image_length
unfolding row lists_fault
returns-then-room-image_length c =
    sym (passed _ _ _ _ _ _ c.if-not-is_taken.ensures c.if-not-in_range.ensures c.if-nodes-ne0.false c.if-costs-cost_count.false c.cost_count.ensures.0
    ∙ then_next _ (then_next _ (sym (arcs_told c.args.nodes.now _ c.args.n c.in_ok-check_arcs.ensures)) ∙ sym (costs_told c.args.costs.now c.args.edition c.in_ok-check_costs.ensures))
    ∙ rw (lt-ltb _ _ (rw c.image_length.ensures at c.if-room-image_length.true)))

pub returns : goal.returns
unfolding row lists_fault
returns c =
    sym (passed _ _ _ _ _ _ c.if-not-is_taken.ensures c.if-not-in_range.ensures c.if-nodes-ne0.false c.if-costs-cost_count.false c.cost_count.ensures.0
    ∙ then_next _ (then_next _ (sym (arcs_told c.args.nodes.now _ c.args.n c.in_ok-check_arcs.ensures)) ∙ sym (costs_told c.args.costs.now c.args.edition c.in_ok-check_costs.ensures))
    ∙ rw (le-ltb _ _ (rw c.image_length.ensures at c.if-room-image_length.false)))
