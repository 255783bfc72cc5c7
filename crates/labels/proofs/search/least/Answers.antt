-- `search::least` ends with no dirty node, and then the labels are exact. Assumes nothing.
use Rattle.std.proofs.Common.{rules}
use mathlib.Core.Path.{◌≡◌, ◌∙◌, ap}
use native.Mathlib.Omega.{arith}
use mathlib.Core.Bool.{true, false}
use lib.ListN.{length, set, replicate, length-set, length-replicate}
use Rattle.star.specs.Layout.{graph_of}
use Rattle.star.proofs.NetworkLaws.{graph_few}
use Rattle.labels.specs.Labels.{far}
use Rattle.labels.specs.Search.{input_of}
use Rattle.labels.proofs.SearchLaws.{state_start, state_taken, taken_falls}
use Rattle.labels.proofs.LabelLaws.{exact}
use Rattle.labels.proofs.search.least.Goals as goal

pub new-queue-requires : goal.new-queue-requires
new-queue-requires c = omega (arith, graph_few c.args.graph.now, c.requires.labels_long, c.requires.goal.place)

pub loop-h-init : goal.loop-h-init
loop-h-init c =
    let g = c.args.graph.now in
    let n = length c.args.labels.now in
    let filled : c.fill.new.self ≡ replicate n far = search rules in
    let queue_is : c.mark.new.self ≡ set (replicate n false) c.args.goal true = c.mark.ensures ∙ ap (λ d. set d c.args.goal true) c.new-queue.ensures in
    rw (queue_is, filled) (
      simp (length-set, length-replicate),
      state_start (input_of g c.args.barred.now) c.args.goal n c.requires.goal.place (λ i b. omega (arith, g.holds.arcs.head_to i b, c.requires.labels_long)),
    )

pub loop-h-smaller : goal.loop-h-smaller
loop-h-smaller c = taken_falls _ _ _ _ _ c.in-Some.ensures.node.0 c.in-Some.ensures.node.1 c.spread.ensures.falls

pub loop-h-preserved : goal.loop-h-preserved
loop-h-preserved c = (
  omega (arith, c.spread.ensures.long, ap length c.in-Some.ensures.node.1, length-set c.loop-h.queue c.in-Some.h false, c.loop-h.invariant.0),
  c.spread.ensures.keeps _ (state_taken c.in-Some.ensures.node.1 c.loop-h.invariant.1),
)

pub returns : goal.returns
unfolding graph_of
returns c = exact c.args.graph.now.holds.arcs c.requires.goal.free c.loop-h.invariant.1 c.in_default.ensures.none
