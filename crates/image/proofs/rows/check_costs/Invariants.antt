-- `image::rows::check_costs` meets its contract. Assumes nothing.
use Prim.Native.Nat.{ℕ, ◌≤◌, ◌<◌}
use mathlib.Core.Path.{◌≡◌}
use mathlib.Core.List.{List}
use lib.ListN.{length, get_or, drop}
use Rattle.image.specs.Rows.{costs_fault}
use Rattle.image.proofs.rows.check_costs.Given as goal

abbrev pub invariant-loop-i : goal.invariant-loop-i
invariant-loop-i g l = (l.i ≤ l.count) × ((costs : List ℕ) → length costs ≡ l.count → ((i x : ℕ) → i < l.count → goal.F-post g l.cost i x → get_or costs i 0 ≡ x) → costs_fault l.edition 0 costs ≡ costs_fault l.edition l.i (drop l.i costs))
