-- docs/REFERENCE.md, section 9.3: demand 3, with its parts (a) to (k), as a statement about an answer: first over whatever paths, ranked
-- and measured in whatever way, then of Robust. Assumes nothing.
use Rattle.std.specs.Prelude.{ℕ, ◌≤◌, ◌<◌, ◌≡◌, true, ◌⊎◌, List, [], length, get_or, take}
use Rattle.terms.specs.Lists.{◌∈◌}
use Rattle.terms.specs.Network.{Graph, Net, column, common}
use Rattle.terms.specs.Paths.{Route, OpenPath}
use Rattle.terms.specs.Ranking.{before, ranked}
use Rattle.terms.specs.Regret.{deviation, figure, worst}
use Rattle.terms.specs.Robust.{Answer, settled, left_open, no_path, least_figure}

-- ---- over any paths
-- what is chosen from: the paths, the column that ranks them, the ranked list P1, P2, .. PN,
-- and for each path its deviation in that column, its figure and its worst column
pub record Contest : Type 1 where
  pub admits : Route → Type 0
  pub graph : Graph
  pub ranking : List Route
  pub dev : Route → ℕ
  pub fig : Route → ℕ
  pub wst : Route → ℕ

-- the stopping rule needs j paths: it holds at j, and at no smaller number
pub record Stops (dev fig : Route → ℕ) (ps : List Route) (j : ℕ) : Type 0 where
  pub one_at_least : 1 ≤ j
  pub all_at_most : j ≤ length ps
  pub holds : (j ≡ length ps) ⊎ (least_figure fig ps j ≤ dev (get_or ps j []))
  pub not_before : (i : ℕ) → 1 ≤ i → i < j → dev (get_or ps i []) < least_figure fig ps i

abbrev pub Needs : Contest → ℕ → Type 0
Needs c j = Stops c.dev c.fig c.ranking j

-- l is the least greatest regret of all paths
pub record LeastRegret (c : Contest) (l : ℕ) : Type 0 where
  pub holder : Route
  pub is_path : c.admits holder
  pub attained : c.fig holder ≡ l
  pub least : (q : Route) → c.admits q → l ≤ c.fig q

-- a settled answer: its route p, figure f, worst column w and count n
pub record Settled (c : Contest) (K : ℕ) (p : Route) (f w n : ℕ) : Type 0 where
  -- (b) settled exactly if the stopping rule needs at most K paths; (i) the count is the number that it needs
  pub count_needed : Needs c n
  pub count_within : n ≤ K
  -- (d) a settled route is such a path
  pub is_path : c.admits p
  -- (e) no other one, counted or not, has a smaller greatest regret
  pub least : (q : Route) → c.admits q → f ≤ c.fig q
  -- (f) and each one before it in the ranked list has a larger one
  pub earliest : (q : Route) → c.admits q → before c.graph q p ≡ true → f < c.fig q
  -- (j) the figure is the greatest regret of the route itself
  pub own_figure : f ≡ c.fig p
  pub own_column : w ≡ c.wst p

-- an open answer: the same, and its floor b
pub record Open (c : Contest) (K : ℕ) (p : Route) (f w n b : ℕ) : Type 0 where
  -- (c) open exactly if it needs more than K; (i) the count is K
  pub needs_more : (j : ℕ) → Needs c j → K < j
  pub count_all : n ≡ K
  pub is_path : c.admits p
  -- (g) it has the least greatest regret among the first K ranked paths, and is the earliest that has it
  pub counted : p ∈ take K c.ranking
  pub least : (q : Route) → q ∈ take K c.ranking → f ≤ c.fig q
  pub earliest : (q : Route) → q ∈ take K c.ranking → before c.graph q p ≡ true → f < c.fig q
  -- (h) the least greatest regret of all paths is at least the floor and at most the figure
  pub between : (l : ℕ) → LeastRegret c l → (b ≤ l) × (l ≤ f)
  -- (j) the figure is the greatest regret of the route itself, and (k) the floor that of section 5.5
  pub own_figure : f ≡ c.fig p
  pub own_column : w ≡ c.wst p
  pub one_more : K < length c.ranking
  pub floor_is : b ≡ c.dev (get_or c.ranking K [])

-- the whole demand: one case for each kind of answer, and no two of the conditions hold at once
pub data Demand (c : Contest) (K : ℕ) : Answer → Type 0 where
  -- (a) "no path" comes exactly if there is no loopless path from start to goal
  none : ((p : Route) → c.admits p → ⊥) → Demand c K no_path
  closed : {p : Route} {f w n : ℕ} → Settled c K p f w n → Demand c K (settled p f w n)
  unsettled : {p : Route} {f w n b : ℕ} → Open c K p f w n b → Demand c K (left_open p f w n b)

-- ---- of Robust
-- the loopless paths from s to t that are open in every column, in the ranking order in r, with their deviations in r, their figures and
-- their worst columns
abbrev pub contest : Net → ℕ → ℕ → ℕ → Contest
contest net r s t = record {
  admits = OpenPath net s t;
  graph = column net r;
  ranking = ranked net.nodes (column (common net) r) s t;
  dev = λ p. deviation net s t p r;
  fig = figure net s t;
  wst = worst net s t;
}

abbrev pub Demand3 : Net → ℕ → ℕ → ℕ → ℕ → Answer → Type 0
Demand3 net r s t K a = Demand (contest net r s t) K a
