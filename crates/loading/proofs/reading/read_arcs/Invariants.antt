-- `reading::read_arcs`: the first i tails and heads are read. Assumes nothing.
use Prim.Native.Nat.{ℕ, ◌≤◌}
use mathlib.Core.Path.{◌≡◌}
use mathlib.Core.List.{◌++◌, map}
use lib.ListN.{length, take, drop}
use Rattle.image.specs.Layout.{net_of}
use Rattle.loading.specs.Selected.{selected}
use Rattle.loading.proofs.reading.read_arcs.Given as goal

abbrev pub invariant-loop-i : goal.invariant-loop-i
invariant-loop-i l = (l.i ≤ length l.kept) × (length l.tails ≡ length l.initial.tails) × (length l.heads ≡ length l.initial.heads) × (l.tails ≡ take l.i (map (λ (a : ℕ × ℕ). a.0) (selected l.kept (net_of l.network.image.now)).arcs) ++ drop l.i l.initial.tails) × (l.heads ≡ take l.i (map (λ (a : ℕ × ℕ). a.1) (selected l.kept (net_of l.network.image.now)).arcs) ++ drop l.i l.initial.heads)
