-- docs/REFERENCE.md, section 9.2 (a): demand 2, as a statement about a list of routes and a list of costs. Assumes nothing.
use Rattle.std.specs.Prelude.{ℕ, ◌≤◌, ◌<◌, ◌≡◌, true, ◌⊎◌, List, [], map, length, get_or}
use Rattle.terms.specs.Lists.{◌∈◌}
use Rattle.terms.specs.Network.{Graph}
use Rattle.terms.specs.Paths.{Route, Path, cost}
use Rattle.terms.specs.Ranking.{before}

-- in the column g the routes l are the first K of all loopless paths from start to goal, with the costs cs
pub record Demand2 (g : Graph) (s t K : ℕ) (l : List Route) (cs : List ℕ) : Type 0 where
  -- each is a loopless path from start to goal
  pub is_path : (p : Route) → p ∈ l → Path g s t p
  -- ordered by cost in the column and then by nodes: of two places the lower comes first, so no path stands at both
  pub in_order : (i j : ℕ) → i < j → j < length l → before g (get_or l i []) (get_or l j []) ≡ true
  -- the first: each path is one of them, or comes after all of them
  pub others_later : (q : Route) → Path g s t q → (q ∈ l) ⊎ ((p : Route) → p ∈ l → before g p q ≡ true)
  -- K of them, or all of them if there are fewer
  pub at_most : length l ≤ K
  pub all_if_fewer : length l < K → (q : Route) → Path g s t q → q ∈ l
  -- each with its true cost
  pub true_costs : cs ≡ map (cost g) l
