-- `pricing::own_bests`: the bests of the first u columns are found. Assumes nothing.
use Prim.Native.Nat.{ℕ, ◌+◌, ◌≤◌, ◌<◌}
use mathlib.Core.Path.{◌≡◌}
use mathlib.Core.List.{List}
use lib.ListN.{length, get_or}
use Rattle.terms.specs.Network.{Net, column}
use Rattle.terms.specs.Regret.{label}
use Rattle.image.specs.Layout.{net_of}
use Rattle.closures.specs.Map.{without}
use Rattle.network_calls.proofs.pricing.own_bests.Given as goal

abbrev rest : List ℕ → List ℕ → Net
rest closed image = without closed (net_of image)

abbrev pub invariant-loop-u : goal.invariant-loop-u
invariant-loop-u l = (l.u ≤ l.u-end) × (length l.star ≡ length l.initial.star) × (length l.weights ≡ length l.initial.weights) × (length l.labels ≡ length l.initial.labels) × (length l.bests ≡ length l.initial.bests) × ((j : ℕ) → 1 + j < l.u + 1 → get_or l.bests j 0 ≡ label (rest l.closed l.network.image.now).nodes (column (rest l.closed l.network.image.now) (1 + j)) l.goal l.start)
