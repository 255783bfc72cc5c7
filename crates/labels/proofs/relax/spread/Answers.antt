-- `relax::spread` follows the chain of h, and the link falls. The loop: the arcs into h from the link on are done, and the label of h is kept.
-- Assumes nothing.
use mathlib.Core.Path.{◌≡◌, ◌∙◌, subst}
use mathlib.Core.List.{List}
use Prim.Native.Nat.{ℕ, ◌+◌, ◌-◌, ◌<◌}
use native.Mathlib.Omega.{arith}
use native.Mathlib.Nat.{le_trans, le_of_lt}
use lib.ListN.{length, get_or}
use Rattle.star.specs.Graphs.{tails}
use Rattle.labels.specs.Search.{Visited}
use Rattle.labels.proofs.ArrayLaws.{graph_arrays}
use Rattle.labels.proofs.SearchLaws.{chain_next, visited_long, visited_falls, visited_rest}
use Rattle.labels.proofs.relax.spread.Goals as goal

pub loop-link-preserved : goal.loop-link-preserved
loop-link-preserved c =
    let g = c.args.graph.now in
    let arrays = graph_arrays g {bars = c.args.barred.now} (c.requires.barred_long ∙ c.requires.labels_long) in
    let link_is : c.loop-link.link ≡ (c.loop-link.link - 1) + 1 = omega arith in
    let arc_in : (c.loop-link.link - 1) < length (tails g) = omega arith in
    let tail_in : get_or (tails g) (c.loop-link.link - 1) 0 < length c.loop-link.labels = omega (arith, arrays.tail_in (c.loop-link.link - 1) arc_in) in
    let head_in : c.args.h < length c.loop-link.labels = omega arith in
    let same = c.loop-link.invariant.1 in
    let visited = subst (λ (ts : List ℕ). Visited (get_or ts (c.loop-link.link - 1) 0) (get_or g.weights.now (c.loop-link.link - 1) 0) (get_or c.args.labels.now c.args.h 0) c.args.barred.now c.loop-link.labels c.loop-link.queue c.visit.new.labels c.visit.new.queue)
    c.tails-tails.ensures.of_graph c.visit.ensures in
    rw c.next_in-next_in.ensures.of_graph (
      le_trans (arrays.next_in (c.loop-link.link - 1) arc_in) (le_of_lt arc_in),
      visited_long tail_in same visited,
      le_trans (visited_falls tail_in same visited) c.loop-link.invariant.2,
      visited_rest tail_in _ c.loop-link.invariant.3 visited,
      λ t s. chain_next g.holds.chains arrays.next_long link_is arc_in head_in tail_in same c.loop-link.invariant.3 visited (c.loop-link.invariant.4 t s),
    )
