-- `stepping::least_exit` goes through the arcs out of v: the best of their numbers is the choice among the exits. Assumes nothing.
use native.Mathlib.Omega.{arith}
use mathlib.Core.Path.{◌≡◌, refl}
use Prim.Native.Nat.{ℕ, ◌+◌, ◌≤◌}
use lib.ListN.{length}
use Rattle.star.specs.Graphs.{heads, out_start}
use Rattle.star.specs.Layout.{graph_of}
use Rattle.star.proofs.NetworkLaws.{graph_heads}
use Rattle.exits.specs.Exits.{via_arc}
use Rattle.exits.proofs.ExitLaws.{scan_take, scan_pass, scanned_chosen, scanned_usable}
use Rattle.exits.proofs.stepping.least_exit.Goals as goal
use Rattle.exits.proofs.stepping.least_exit.Goals.{in-Some, in_default}

pub loop-i-preserved : goal.loop-i-preserved
loop-i-preserved c =
    let g = c.args.graph.now in
    let number : ℕ → ℕ = via_arc (heads g) g.weights.now c.args.labels.now c.args.used.now c.args.barred.now in
    let from = out_start g c.args.v in
    let same = c.heads-heads.ensures.of_graph in
    elim c.match-via_below.branch [
      | in-Some w ↦
          let new = rw same at w.in-Some.ensures.is in
          rw (w.best-is, w.found-is, same) (refl, scan_take number (heads g) from c.loop-i.i _ (omega (arith, c.outs-outs.ensures.start)) new.0 (omega (arith, new.1, c.loop-i.invariant.0)) c.loop-i.invariant.1)
      | in_default w ↦
          let none = rw same at (rw w.in_default.is at c.via_below.ensures) in
          rw (w.best-is, w.found-is) (c.loop-i.invariant.0, scan_pass number (heads g) from c.loop-i.i _ (omega (arith, none.no_less, c.loop-i.invariant.0)) none.at_most c.loop-i.invariant.1)
    ]

pub returns-clause-usable : goal.returns-clause-usable
returns-clause-usable c =
    let g = c.args.graph.now in
    let top : c.loop-i.i ≤ length (heads g) = omega (arith, c.loop-i.auto.i-end c.outs-outs.ensures.ordered, c.outs-outs.ensures.within, (graph_heads g).weights_long) in
    rw c.requires.labels_long (scanned_usable c.args.labels.now c.args.used.now c.args.barred.now (out_start g c.args.v) c.loop-i.i c.loop-i.found (graph_heads g) top c.loop-i.invariant.1)

pub returns-clause-chosen : goal.returns-clause-chosen
unfolding graph_of
returns-clause-chosen c =
    let g = c.args.graph.now in
    let done : c.loop-i.i ≡ out_start g (c.args.v + 1) = omega (arith, c.loop-i.auto.i-end c.outs-outs.ensures.ordered, c.outs-outs.ensures.end) in
    scanned_chosen g.holds.arcs g.holds.star (omega (arith, c.requires.node, c.requires.labels_long)) c.args.labels.now c.args.used.now c.args.barred.now c.loop-i.found c.requires.small.low (rw done at c.loop-i.invariant.1)
