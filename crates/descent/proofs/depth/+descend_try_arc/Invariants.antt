-- The proof of the cycle of calls {descend, try_arc}. A node deeper the measure is smaller, and an arc has less than its node. Assumes nothing.
use Prim.Native.Nat.{ℕ, ◌+◌, ◌*◌, ◌-◌}
use mathlib.Core.List.{List}
use Rattle.terms.specs.Network.{Net}
use Rattle.descent.specs.Rule.{State}
use Rattle.descent.specs.Depth.{Kept, heads_in, GivenIn}
use Rattle.descent.proofs.SweepLaws.{Leads}
use Rattle.descent.proofs.depth.+descend_try_arc.Given as goal

abbrev pub invariant-descend-loop-i : goal.invariant-descend-loop-i
invariant-descend-loop-i l = record {
  kept : Kept l.partial.depth l.initial.route l.initial.used l.route l.used;
  leads : (net : Net) (s t : ℕ) (seen : List ℕ) (z : State) → GivenIn net s t seen z l.columns l.task l.partial l.v l.initial.route l.initial.path l.initial.now
      → Leads l.task.limit (l.columns.places - (l.partial.depth + 1)) net s t seen l.v (heads_in l.columns) l.to l.from l.i z l.path l.now;
}

abbrev pub decreases-descend : goal.decreases-descend
decreases-descend l = 2 * (l.columns.now.places - l.partial.now.depth) + 1

abbrev pub decreases-try_arc : goal.decreases-try_arc
decreases-try_arc l = 2 * (l.columns.now.places - l.partial.now.depth)
