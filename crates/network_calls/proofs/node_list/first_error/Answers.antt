-- `node_list::first_error` stops at the first error. The outer loop: each node before position at goes on, and the last of them is a node of the graph; the inner one: none of the nodes before position before is the node at it. Assumes nothing.
use Prim.Native.Nat.{ℕ, ◌+◌, ◌-◌}
use native.Mathlib.Omega.{arith}
use mathlib.Core.Path.{◌≡◌, refl}
use mathlib.Core.Bool.{true, false}
use borrow.Author.Count.{below_none, below_more}
use lib.ListN.{get_or}
use Rattle.std.specs.Prelude.{Option, Some, None, is_some}
use Rattle.terms.proofs.ListLaws.{clash}
use Rattle.star.proofs.StarLaws.{found_index, found_at, none_found}
use Rattle.network_calls.proofs.NodeListLaws.{head_node}
use Rattle.network_calls.proofs.node_list.first_error.Goals as goal

pub loop-at-init : goal.loop-at-init
loop-at-init c = (omega arith, c.requires.some_node, c.requires.first_node, λ i h k. absurd (omega arith))

pub arc_between-found-requires : goal.arc_between-found-requires
arc_between-found-requires c =
    let g = c.args.graph.now in
    let v = get_or c.args.nodes.now (c.loop-at.at - 1) 0 in
    let within = g.holds.star.within (v + 1) (omega (arith, c.loop-at.invariant.2)) in
    rw (c.heads-heads.ensures.of_graph, c.first_out-first_out.ensures.of_graph) (omega (arith, g.holds.star.long, c.loop-at.invariant.2), omega (arith, within, g.holds.arcs.heads_long))

-- what an option has, and that it has nothing
taken : (o : Option ℕ) → is_some o ≡ true → (j : ℕ) × (o ≡ Some j)
taken None e = clash e refl
taken (Some j) e = (j, refl)

nothing : (o : Option ℕ) → is_some o ≡ false → o ≡ None
nothing None e = refl
nothing (Some j) e = clash refl e

pub returns-then-is_none : goal.returns-then-is_none
returns-then-is_none c =
    let found = rw (c.heads-heads.ensures.of_graph, c.first_out-first_out.ensures.of_graph) at c.arc_between-found.ensures in
    let none = nothing c.arc_between-found.result c.if-is_none.ensures in
    (record { after_first = c.loop-at.invariant.0; upto = c.loop-at.invariant.1; right_before = c.loop-at.invariant.3; wrong_here = λ _ o. none_found found none c.args.graph.now.holds.star o.arc.0 o.arc.1 }, omega arith)

pub loop-before-init : goal.loop-before-init
loop-before-init c = (omega arith, below_none _)

pub loop-before-preserved : goal.loop-before-preserved
loop-before-preserved c = (omega arith, below_more _ c.loop-before.before c.loop-before.invariant.1 c.if-nodes-before.false)

pub returns-then-nodes-before : goal.returns-then-nodes-before
returns-then-nodes-before c =
    (record { after_first = c.loop-at.invariant.0; upto = c.loop-at.invariant.1; right_before = c.loop-at.invariant.3; wrong_here = λ _ o. o.new _ c.loop-before-test.true c.if-nodes-before.true }, omega arith)

pub loop-at-preserved : goal.loop-at-preserved
loop-at-preserved c =
    let g = c.args.graph.now in
    let at = c.loop-at.at in
    let found = rw (c.heads-heads.ensures.of_graph, c.first_out-first_out.ensures.of_graph) at c.arc_between-found.ensures in
    let arc = taken c.arc_between-found.result c.if-is_none.ensures in
    let e : at + 1 - 1 ≡ at = omega arith in
    let node = head_node g.holds.arcs (found_index found arc.1) in (
      omega arith,
      omega arith,
      rw e node,
      below_more _ at c.loop-at.invariant.3 (λ _. record { arc = (_, found_at found arc.1 g.holds.star); new = λ j h. c.loop-before.invariant.1 j (omega arith) }),
    )

pub returns-after-loop-at : goal.returns-after-loop-at
returns-after-loop-at c =
    record { after_first = c.requires.some_node; upto = omega arith; right_before = λ i h. c.loop-at.invariant.3 i (omega arith); wrong_here = λ h _. absurd (omega (arith, h)) }
