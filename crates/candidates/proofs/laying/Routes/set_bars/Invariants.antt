-- `laying::Routes::set_bars` goes from parent to parent, and the place falls. The loop: the flags that are still to be set make up those of the contract. Assumes nothing.
use Prim.Native.Nat.{◌≤◌, ◌<◌}
use mathlib.Core.Path.{◌≡◌}
use Rattle.candidates.specs.Routes.{size}
use Rattle.candidates.specs.Bars.{bars, marked}
use Rattle.candidates.specs.Views.{entry_in, listed}
use Rattle.candidates.proofs.laying.Routes.set_bars.Given as goal

abbrev pub invariant-loop-place : goal.invariant-loop-place
invariant-loop-place l = (l.p ≤ l.place) × ((entry_in l.self.entries l.p).shared ≤ l.at) × (l.at < size (entry_in l.self.entries l.p))
    × (marked l.value (bars (listed l.self.entries) l.p l.at) l.flags ≡ marked l.value (bars (listed l.self.entries) l.place l.at) l.initial.flags)

abbrev pub decreases-loop-place : goal.decreases-loop-place
decreases-loop-place l = l.p
