-- What the functions of the ranking need and give, said of a query. Assumes nothing.
use Rattle.std.specs.Prelude.{ℕ, Bool, List}
use Rattle.star.specs.Graphs.{arcs_of}
use Rattle.candidates.specs.Slots.{Entry, entries}
use Rattle.branching.specs.Branches.{Branch}
use Rattle.ranking.specs.Ranking.{Filled, Deviation, Changed, Settled, Along, Emptied, Due, Space, Begins, Stage, Ranked}
use Rattle.ranking.specs.State.{Searching}
use Rattle.ranking.specs.declared.query.Query.{Query}

-- ---- the workspace w with `count` entries
abbrev pub entries_for : Query → List ℕ → ℕ → List Entry
entries_for q w count = entries q.graph.nodes w count

abbrev pub SpaceFor : Query → List ℕ → Type 0
SpaceFor q w = Space q.graph.nodes q.slots w

abbrev pub FilledFor : Query → ℕ → List ℕ → ℕ → Type 0
FilledFor q j w count = Filled q.graph.nodes q.slots (arcs_of q.graph) q.start j w count

abbrev pub ChangedFor : Query → ℕ → List ℕ → ℕ → List ℕ → ℕ → Type 0
ChangedFor q j w count w' count' = Changed q.graph.nodes q.slots (arcs_of q.graph) q.start j w count w' count'

-- ---- one branch
abbrev pub DeviationFor : Query → List Entry → ℕ → List Bool → List Bool → List ℕ → ℕ → ℕ → ℕ → Type 0
DeviationFor q E j used bars path parent d before = Deviation q.graph.nodes (arcs_of q.graph) q.start q.goal E j used bars path parent d before

abbrev pub AlongFor : Query → List Entry → ℕ → List Bool → List Bool → List ℕ → ℕ → ℕ → Type 0
AlongFor q E r used bars path d before = Along q.graph.nodes (arcs_of q.graph) q.start q.goal E r used bars path d before

abbrev pub SettledFor : Query → ℕ → List Entry → ℕ → Branch → List Entry → Type 0
SettledFor q limit E j β E' = Settled q.graph.nodes (arcs_of q.graph) q.start q.goal q.slots limit E j β E'

abbrev pub EmptiedFor : Query → ℕ → List Entry → ℕ → List Branch → List Entry → Type 0
EmptiedFor q limit E j waiting E' = Emptied q.graph.nodes (arcs_of q.graph) q.start q.goal q.slots limit E j waiting E'

-- ---- the search
abbrev pub SearchingFor : Query → ℕ → List Entry → ℕ → List Branch → Type 0
SearchingFor q limit E j waiting = Searching q.graph.nodes (arcs_of q.graph) q.start q.goal q.slots limit E j waiting

abbrev pub DueFor : Query → ℕ → List Entry → ℕ → Type 0
DueFor q limit E j = Due q.graph.nodes (arcs_of q.graph) q.start q.goal q.slots limit E j

abbrev pub BeginsFor : Query → List ℕ → List ℕ → ℕ → Type 0
BeginsFor q w w' count = Begins q.graph.nodes q.slots (arcs_of q.graph) q.start q.goal w w' count

abbrev pub StageFor : Query → List Entry → ℕ → Type 0
StageFor q E j = Stage q.graph.nodes (arcs_of q.graph) q.start q.goal q.slots E j

abbrev pub RankedFor : Query → List ℕ → List ℕ → ℕ → Type 0
RankedFor q w w' count = Ranked q.graph.nodes q.slots (arcs_of q.graph) q.start q.goal w w' count
