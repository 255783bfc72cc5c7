-- `stepping::least_exit` goes through the arcs out of v. The loop: the least number so far, and the first head that has it. Assumes nothing.
use mathlib.Core.Path.{◌≡◌}
use Rattle.star.specs.Graphs.{heads, out_start}
use Rattle.exits.specs.Exits.{via_arc, Scanned}
use Rattle.exits.proofs.ExitLaws.{least_of}
use Rattle.exits.proofs.stepping.least_exit.Given as goal

abbrev pub invariant-loop-i : goal.invariant-loop-i
invariant-loop-i l =
    (l.best ≡ least_of l.found)
    × Scanned (via_arc (heads l.graph) l.graph.weights.now l.labels l.used l.barred) (heads l.graph) (out_start l.graph l.v) l.i l.found
