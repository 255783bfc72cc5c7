-- `laying::Routes::place_for` halves the places that are left. The loop: the entry below `low` comes before the new one, that at `high` does not. Assumes nothing.
use Prim.Native.Nat.{ℕ, ◌+◌, ◌-◌, ◌≤◌, ◌<◌}
use mathlib.Core.Path.{◌≡◌}
use mathlib.Core.Bool.{true, false}
use Rattle.candidates.specs.Views.{listed}
use Rattle.candidates.specs.Placing.{ahead}
use Rattle.candidates.proofs.laying.Routes.place_for.Given as goal

abbrev pub invariant-loop-low : goal.invariant-loop-low
invariant-loop-low l = (l.from ≤ l.low) × (l.low ≤ l.high) × (l.high ≤ l.self.entries.count)
    × ((q : ℕ) → l.from ≤ q → q + 1 ≡ l.low → ahead l.self.start (listed l.self.entries) q l.cost l.route ≡ true) × (l.high < l.self.entries.count → ahead l.self.start (listed l.self.entries) l.high l.cost l.route ≡ false)

abbrev pub decreases-loop-low : goal.decreases-loop-low
decreases-loop-low l = l.high - l.low
