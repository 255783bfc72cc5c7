-- The arcs of a path, found once and summed in each column. Assumes nothing.
use Rattle.std.specs.Prelude.{ℕ, suc, ◌-◌, ◌≤◌, ◌<◌, ◌≡◌, List, map, length, get_or, sum_by, All}
use Rattle.terms.specs.Lists.{numbers}
use Rattle.star.specs.Arcs.{At}
use Rattle.measuring.specs.Columns.{column_costs}
use Rattle.measuring.specs.Networks.{costs_in}
use Rattle.measuring.specs.declared.columns.Columns.{Columns}

-- arc arcs[i] goes from path[i] to the next node, of the first c nodes
pub record Steps (ts hs path arcs : List ℕ) (c : ℕ) : Type 0 where
  pub step : (i : ℕ) → suc i < c → At ts hs (get_or path i 0) (get_or path (suc i) 0) (get_or arcs i 0)

-- what the arcs weigh together
abbrev pub sum_of : List ℕ → List ℕ → ℕ
sum_of ws arcs = sum_by (λ a. get_or ws a 0) arcs

-- what the arcs cost beyond the bests, in column u and in each
unfoldable pub excess : ℕ → List ℕ → List ℕ → List ℕ → ℕ → ℕ
excess m costs bests arcs u = sum_of (column_costs m costs u) arcs - get_or bests (u - 1) 0

unfoldable pub excesses : ℕ → List ℕ → List ℕ → List ℕ → List ℕ
excesses m costs bests arcs = map (excess m costs bests arcs) (numbers 1 (length bests))

-- a measure that may stop at a limit: below the limit it is the figure with its worst column, and else the figure is no less than the limit
pub record Measured (limit figure worst f w : ℕ) : Type 0 where
  pub exact : f < limit → (f ≡ figure) × (w ≡ worst)
  pub beyond : limit ≤ f → limit ≤ figure

-- arcs that can be summed in each column, and cost the bests at least
pub record Summed (c : Columns) (bests arcs : List ℕ) : Type 0 where
  pub bests_long : length bests ≡ c.count
  pub steps_few : length arcs ≤ 1000
  pub arcs_in : All (λ a. a < c.arcs) arcs
  pub bests_below : (u : ℕ) → 1 ≤ u → u ≤ c.count → get_or bests (u - 1) 0 ≤ sum_of (costs_in c u) arcs
