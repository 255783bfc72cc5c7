-- `map::closed_roads`: the ones of the words so far are counted. Assumes nothing.
use Prim.Native.Nat.{◌-◌, ◌*◌, min}
use mathlib.Core.Path.{◌≡◌}
use Rattle.closures.specs.Map.{closed_roads}
use Rattle.closures.proofs.map.closed_roads.Given as goal

abbrev pub invariant-loop-word : goal.invariant-loop-word
invariant-loop-word l = (l.left ≡ l.m - 64 * l.word-index) × (l.count ≡ closed_roads l.words (min l.m (64 * l.word-index)))
