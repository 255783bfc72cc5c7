-- The search for the path of least greatest regret: what holds while paths are counted. Assumes nothing.
use Rattle.std.specs.Prelude.{ℕ, ◌+◌, ◌-◌, ◌≤◌, ◌<◌, ◌≡◌, Option, Some, None, List, [], length, get_or}
use Rattle.terms.specs.Network.{Graph}
use Rattle.terms.specs.Paths.{Route, cost}
use Rattle.terms.specs.Ranking.{ranked}
use Rattle.candidates.specs.Slots.{entry_at, entries}
use Rattle.ranking.specs.Ranking.{Filled}
use Rattle.ranking.specs.State.{Searching}
use Rattle.choosing.specs.declared.contest.Contest.{Contest}
use Rattle.choosing.specs.declared.counting.Leader.{Leader}
use Rattle.choosing.specs.Contests.{nodes_in, graph_in, low_in, figure_in, worst_in}
use Rattle.choosing.specs.Leader.{Leading, Going}

-- ---- the paths from s to t in a graph g of n nodes, with their figures and worst columns, in a workspace w of M slots
-- j paths are counted, and l leads. No path costs less than low, so one that costs low and l's figure, or more, has at least this figure as its deviation
pub record Counting (n M : ℕ) (g : Graph) (s t low : ℕ) (fig wst : Route → ℕ) (w : List ℕ) (count j : ℕ) (l : Leader) : Type 0 where
  -- the workspace has the ranked paths, and the candidates behind them
  pub filled : Filled n M g s j w count
  -- the first candidate is the next path, unless it costs that much: then so do all paths that are not ranked
  pub search : Searching n g s t M (low + l.figure) (entries n w count) j []
  -- before a path is counted there is one that is due
  pub first : j ≡ 0 → (j < count) × ((entry_at n w j).cost < low + l.figure)
  -- the ranked path at the leader's place is the earliest with the least figure
  pub leading : Leading fig wst (ranked n g s t) j l.place l.figure l.worst
  -- the stopping rule holds at no number of paths below j
  pub going : Going (λ p. cost g p - low) fig (ranked n g s t) j

-- the path p, the next after the first j, is counted: l led the first j, and l' leads the first j + 1
pub record Counted (fig wst : Route → ℕ) (p : Route) (j : ℕ) (l l' : Leader) : Type 0 where
  pub no_more : l'.figure ≤ l.figure
  pub leads : (ps : List Route) → j < length ps → get_or ps j [] ≡ p → Leading fig wst ps j l.place l.figure l.worst → Leading fig wst ps (j + 1) l'.place l'.figure l'.worst

-- what comes after j paths: no path, or one whose deviation is the figure at least, and the stopping rule holds; or one with a smaller deviation
pub data Outlook (n : ℕ) (w : List ℕ) (count j low figure : ℕ) : Option ℕ → Type 0 where
  none_left : j ≡ count → Outlook n w count j low figure None
  late : j < count → low + figure ≤ (entry_at n w j).cost → Outlook n w count j low figure None
  more : (deviation : ℕ) → j < count → (entry_at n w j).cost < low + figure → deviation ≡ (entry_at n w j).cost - low → Outlook n w count j low figure (Some deviation)

-- ---- the same of a contest: its paths, with low the best of its column
abbrev pub CountingIn : Contest → List ℕ → ℕ → ℕ → Leader → Type 0
CountingIn x w count j l = Counting (nodes_in x) x.query.slots (graph_in x) x.query.start x.query.goal (low_in x) (figure_in x) (worst_in x) w count j l

abbrev pub CountedIn : Contest → Route → ℕ → Leader → Leader → Type 0
CountedIn x p j l l' = Counted (figure_in x) (worst_in x) p j l l'

abbrev pub OutlookIn : Contest → List ℕ → ℕ → ℕ → ℕ → Option ℕ → Type 0
OutlookIn x w count j figure z = Outlook (nodes_in x) w count j (low_in x) figure z
