-- What is lent to a search for the first paths. Assumes nothing.
use Rattle.std.specs.Prelude.{ℕ, ◌+◌, ◌*◌, ◌≤◌, List, length}

-- slices long enough for K paths: K rows, K costs and the workspace's slots
pub record ListSlices (n K : ℕ) (rows costs work : List ℕ) : Type 0 where
  pub wanted_from : 1 ≤ K
  pub wanted_to : K ≤ 256
  pub rows_long : K * n ≤ length rows
  pub costs_long : K ≤ length costs
  pub slots_long : K * (n + 16) ≤ length work
