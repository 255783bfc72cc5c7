-- docs/REFERENCE.md, sections 9.2 and 9.3: demand 2 for a call of Rank, and demand 3 for a call of Robust, on an image. Assumes nothing.
use Rattle.std.specs.Prelude.{ℕ, min, ◌≡◌, List, length}
use Rattle.terms.specs.Network.{column}
use Rattle.terms.specs.Paths.{Route, Path, OpenPath}
use Rattle.terms.specs.Ranking.{ranked}
use Rattle.terms.specs.Demand2.{Demand2}
use Rattle.terms.specs.Demand3.{Demand3}
use Rattle.image.specs.Outcome.{sound, fault}
use Rattle.image.specs.Layout.{net_of}
use Rattle.outcomes.specs.Calls.{rank_rows, rank_fault, rank_of, rank_costs_of, robust_rows, robust_fault, robust_of}

-- for every call of Rank that passes the checks, whatever the image, the numbers and the slices
pub record Kept2 (b : List ℕ) (u s t K rows costs work : ℕ) : Type 0 where
  -- if there is a loopless path from start to goal, the list is given
  pub some_given : rank_rows b u s t K rows costs work ≡ sound → (p : Route) → Path (column (net_of b) u) s t p → rank_fault b u s t K rows costs work ≡ sound
  -- the routes whose rows are written, and the costs written, are as the demand says
  pub demand : rank_rows b u s t K rows costs work ≡ sound → Demand2 (column (net_of b) u) s t K (rank_of b u s t K) (rank_costs_of b u s t K)
  -- and their count is the smaller of K and the number of paths
  pub count : length (rank_of b u s t K) ≡ min K (length (ranked (net_of b).nodes (column (net_of b) u) s t))

-- for every call of Robust that passes the checks, whatever the image, the numbers and the slices
pub record Kept3 (b : List ℕ) (r s t K path work : ℕ) : Type 0 where
  -- (a) "no path" comes exactly if no loopless path from start to goal is open in every column
  pub refused_none : robust_rows b r s t K path work ≡ sound → robust_fault b r s t K path work ≡ fault 15 0 → (p : Route) → OpenPath (net_of b) s t p → ⊥
  pub none_refused : robust_rows b r s t K path work ≡ sound → ((p : Route) → OpenPath (net_of b) s t p → ⊥) → robust_fault b r s t K path work ≡ fault 15 0
  -- if there is one, the answer is given
  pub some_given : robust_rows b r s t K path work ≡ sound → (p : Route) → OpenPath (net_of b) s t p → robust_fault b r s t K path work ≡ sound
  -- and is as the demand says, part by part
  pub demand : robust_rows b r s t K path work ≡ sound → Demand3 (net_of b) r s t K (robust_of b r s t K)
