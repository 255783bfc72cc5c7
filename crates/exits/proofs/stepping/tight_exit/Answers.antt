-- `stepping::tight_exit` stops at the first arc that keeps to the label; heads rise, so that it goes to the smallest node. Assumes nothing.
use native.Mathlib.Omega.{arith}
use Rattle.star.specs.Layout.{graph_of}
use Rattle.exits.proofs.ExitLaws.{first_tight}
use Rattle.exits.proofs.stepping.tight_exit.Goals as goal

pub returns-then-keeps-clause-tight : goal.returns-then-keeps-clause-tight
unfolding graph_of
returns-then-keeps-clause-tight c =
    let g = c.args.graph.now in
    let same = c.heads-heads.ensures.of_graph in
    let kept = rw same at (c.keeps.ensures.0 c.if-keeps.true) in
    rw same (λ reached. first_tight g.holds.arcs g.holds.star (omega (arith, c.requires.node, c.requires.labels_long)) c.args.labels.now c.args.used.now c.loop-i.i
    (omega (arith, c.outs-outs.ensures.start)) (omega (arith, c.outs-outs.ensures.end)) reached kept.unused kept.adds_up
    (λ j lo hi unused adds_up. c.loop-i.invariant j lo hi (record { unused = unused; adds_up = adds_up })))
