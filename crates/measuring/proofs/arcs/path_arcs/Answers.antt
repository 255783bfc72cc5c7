-- `arcs::path_arcs`: the arc of one step more is found. Assumes nothing.
use Prim.Native.Nat.{◌+◌}
use native.Mathlib.Omega.{arith}
use mathlib.Core.Path.{◌≡◌, ◌∙◌, ap}
use lib.ListN.{length, get_or, drop, length-drop}
use lib.Seq.{drop-drop}
use Rattle.std.specs.Slice.Iter.{windows_rest, windows_size}
use Rattle.terms.proofs.PathLaws.{arcs_linked}
use Rattle.star.proofs.ArcLaws.{linked_at, tail_within}
use Rattle.star.specs.Layout.{graph_of}
use Rattle.measuring.proofs.StepLaws.{pair_at, steps_more, found_or}
use Rattle.measuring.proofs.arcs.path_arcs.Goals as goal

pub loop-i-init : goal.loop-i-init
loop-i-init c =
    let walk = c.into_iter-i-iterator.ensures.into_iter_gives in
    let from = c.enumerate-i-items.ensures in
    let none : c.into_iter-i-iterator.result.count ≡ 0 = ap (λ w. w.count) walk ∙ from.count in
    record {
      pairs = ap (λ w. windows_size w.iter) walk ∙ ap windows_size from.source ∙ c.windows.ensures.size;
      left = rw none (ap (λ w. windows_rest w.iter) walk ∙ ap windows_rest from.source ∙ c.windows.ensures.rest);
      found = record { step = λ j h. absurd (omega (arith, none)) };
    }

pub arc-requires : goal.arc-requires
unfolding graph_of
arc-requires c =
    let g = c.args.graph.now in
    let s = c.in-Some.ensures.steps in
    let two = c.loop-i.invariant.pairs in
    let k = c.loop-i.i-iterator.count in
    let pair = pair_at c.args.path.now k c.loop-i.invariant.left (omega (arith, s.0.1.0, two)) (rw two at s.0.1.1) in
    let node = (tail_within g.holds.arcs _ _ (arcs_linked k c.requires.by_arcs pair.0)).1 in
    rw pair.1 node

pub loop-i-preserved : goal.loop-i-preserved
unfolding graph_of
loop-i-preserved c =
    let g = c.args.graph.now in
    let s = c.in-Some.ensures.steps in
    let two = c.loop-i.invariant.pairs in
    let k = c.loop-i.i-iterator.count in
    let pair = pair_at c.args.path.now k c.loop-i.invariant.left (omega (arith, s.0.1.0, two)) (rw two at s.0.1.1) in
    let linked = arcs_linked k c.requires.by_arcs pair.0 in
    let found = rw (pair.1, pair.2) at c.arc.ensures in
    record {
      pairs = s.0.0 ∙ two;
      left = rw s.2 (s.0.1.2 ∙ ap (drop 1) c.loop-i.invariant.left ∙ drop-drop 1 k c.args.path.now);
      found = rw (s.1, s.2) (steps_more (omega (arith, pair.0, c.requires.room, c.loop-i.auto.arcs)) (rw c.unwrap_or.ensures (found_or found g.holds.star (linked_at g.holds.arcs _ _ linked).1)) c.loop-i.invariant.found);
    }

pub returns : goal.returns
returns c =
    let s = c.in-None.ensures.steps in
    record { step = λ j h. c.loop-i.invariant.found.step j (omega (arith, s.0.1.0, c.loop-i.invariant.pairs, ap length c.loop-i.invariant.left, length-drop c.loop-i.i-iterator.count c.args.path.now)) }
