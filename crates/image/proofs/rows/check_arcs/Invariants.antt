-- `image::rows::check_arcs` meets its contract. Assumes nothing.
use Prim.Native.Nat.{ℕ, ◌≤◌, ◌<◌}
use mathlib.Core.Path.{◌≡◌}
use mathlib.Core.List.{List}
use lib.ListN.{length, get_or, drop}
use Rattle.image.specs.Rows.{arcs_fault}
use Rattle.image.proofs.rows.check_arcs.Given as goal

abbrev pub invariant-loop-i : goal.invariant-loop-i
invariant-loop-i g l = (l.i ≤ l.count) × ((arcs : List (ℕ × ℕ)) → length arcs ≡ l.count → ((i : ℕ) (a : ℕ × ℕ) → i < l.count → goal.F-post g l.arc i a → get_or arcs i (0, 0) ≡ a) → arcs_fault l.n (0, 0) 0 arcs ≡ arcs_fault l.n l.last l.i (drop l.i arcs))
