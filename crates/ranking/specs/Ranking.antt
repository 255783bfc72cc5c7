-- What the functions of the ranking need, and what they do to the workspace. Assumes nothing.
use Rattle.std.specs.Prelude.{ℕ, ◌+◌, ◌-◌, ◌*◌, ◌≤◌, ◌<◌, ◌≡◌, Bool, true, false, List, [], ◌∷◌, length, take, drop, get_or}
use Rattle.terms.specs.Network.{Graph}
use Rattle.terms.specs.Paths.{Loopless, Path, cost}
use Rattle.terms.specs.Ranking.{ranked}
use Rattle.labels.specs.Labels.{far}
use Rattle.candidates.specs.Slots.{Entry, none, entries}
use Rattle.candidates.specs.Keeping.{Kept}
use Rattle.candidates.specs.Routes.{beginning, routes, size, Fits}
use Rattle.candidates.specs.Bars.{barred}
use Rattle.branching.specs.Branches.{Branch, Beginning}
use Rattle.exits.specs.Flags.{Flagged}
use Rattle.branching.specs.Found.{Begun, Idle}
use Rattle.branching.specs.Laid.{Laid}
use Rattle.exits.specs.Small.{Small, longest}
use Rattle.ranking.specs.State.{Entered, Searching, taking_over}
use Rattle.exits.specs.Walks.{Consistent}

-- ---- what is given
-- the paths from s to t in a graph of n nodes, with labels to t
pub record Problem (n s t : ℕ) (g : Graph) (labels : List ℕ) : Type 0 where
  pub start_from : 1 ≤ s
  pub start_to : s ≤ n
  pub goal_to : t ≤ n
  pub apart : s ≡ t → ⊥
  -- the labels do not exceed the costs of paths
  pub consistent : Consistent g t labels []
  pub small : Small (n + 1) labels

-- a workspace of M slots, with entries of which the first j are ranked
pub record Filled (n M : ℕ) (g : Graph) (s j : ℕ) (w : List ℕ) (count : ℕ) : Type 0 where
  pub some : 1 ≤ M
  pub few : M ≤ 257
  pub kept : Kept n M w count
  pub entered : Entered n g s (entries n w count) j

-- ---- one branch
-- the beginning of d nodes that an entry with this parent would take over is laid out, with its flags and those of the nodes that
-- must not follow; it costs `before`
pub record Deviation (n : ℕ) (g : Graph) (s t : ℕ) (E : List Entry) (j : ℕ) (used bars : List Bool) (path : List ℕ) (parent d before : ℕ) : Type 0 where
  pub begun : Begun (n + 1) used bars path d
  pub taken : take d path ≡ beginning s (routes s E) (taking_over d parent)
  pub flagged : Flagged bars (barred E (taking_over d parent))
  pub begins : Beginning g s t (take d path)
  pub fits : Fits n E j (taking_over d parent)
  pub costs : before ≡ cost g (take d path)
  pub small : before ≤ longest

-- flags and beginning are as before
pub record Restored (used : List Bool) (path : List ℕ) (d : ℕ) (used' : List Bool) (path' : List ℕ) : Type 0 where
  pub flags : used' ≡ used
  pub kept : take d path' ≡ take d path

-- candidates may have come and gone; the ranked entries stayed, and so did what lies behind the slots
pub record Changed (n M : ℕ) (g : Graph) (s j : ℕ) (w : List ℕ) (count : ℕ) (w' : List ℕ) (count' : ℕ) : Type 0 where
  pub kept : Kept n M w' count'
  pub entered : Entered n g s (entries n w' count') j
  pub ranked_same : take j (entries n w' count') ≡ take j (entries n w count)
  pub beyond : drop (M * (n + 16)) w' ≡ drop (M * (n + 16)) w

-- the branch β need not wait any more
pub record Settled (n : ℕ) (g : Graph) (s t M limit : ℕ) (E : List Entry) (j : ℕ) (β : Branch) (E' : List Entry) : Type 0 where
  pub goes_on : (waiting : List Branch) → Searching n g s t M limit E j (β ∷ waiting) → Searching n g s t M limit E' j waiting

-- all slots are taken, and the last entry costs less than `bound`
pub data TooDear (M count : ℕ) (E : List Entry) (bound : ℕ) : Bool → Type 0 where
  dear : count ≡ M → (get_or E (count - 1) none).cost < bound → TooDear M count E bound true
  cheap : TooDear M count E bound false

-- a path that goes on from a beginning that costs `before` is wanted if its tail costs `most` at the most; where that is a limit at all,
-- all slots are taken, and a path beyond it costs more than the last entry
pub record Wanted (M count : ℕ) (E : List Entry) (before most : ℕ) : Type 0 where
  pub small : most ≤ longest
  pub full : most < longest → count ≡ M
  pub last : most < longest → (get_or E (count - 1) none).cost ≤ before + most

-- ---- the branches along the path at place r
-- its first d nodes are laid out and flagged, and cost `before`; no node is barred
pub record Along (n : ℕ) (g : Graph) (s t : ℕ) (E : List Entry) (r : ℕ) (used bars : List Bool) (path : List ℕ) (d before : ℕ) : Type 0 where
  pub laid : Laid (n + 1) used path d
  pub none_barred : Flagged bars []
  pub bars_long : length bars ≡ n + 1
  pub inside : r < length E
  pub is_path : Path g s t (get_or (routes s E) r [])
  pub same : take d path ≡ take d (get_or (routes s E) r [])
  -- not before the nodes that it takes over
  pub lower : (get_or E r none).shared ≤ d
  pub upper : d ≤ size (get_or E r none)
  pub costs : before ≡ cost g (take d path)
  pub small : before ≤ longest

-- all that waited has been looked into
pub record Emptied (n : ℕ) (g : Graph) (s t M limit : ℕ) (E : List Entry) (j : ℕ) (waiting : List Branch) (E' : List Entry) : Type 0 where
  pub goes_on : Searching n g s t M limit E j waiting → Searching n g s t M limit E' j []

-- nodes that can be laid out and flagged
pub record Markable (k : ℕ) (used : List Bool) (path : List ℕ) (len : ℕ) : Type 0 where
  pub upto : len ≤ length path
  pub room : k ≤ length path + 1
  pub flags_long : length used ≡ k
  pub none_used : (x : ℕ) → get_or used x false ≡ false
  pub nodes : (i : ℕ) → i < len → (1 ≤ get_or path i 0) × (get_or path i 0 < k)
  pub loopless : Loopless (take len path)

-- the path at place j is the next to be ranked
pub record Due (n : ℕ) (g : Graph) (s t M limit : ℕ) (E : List Entry) (j : ℕ) : Type 0 where
  pub inside : j < length E
  pub cheap : (get_or E j none).cost < limit
  pub search : Searching n g s t M limit E j []

-- ---- the ranked list
-- room for M slots
pub record Space (n M : ℕ) (w : List ℕ) : Type 0 where
  pub some : 1 ≤ M
  pub few : M ≤ 257
  pub room : M * (n + 16) ≤ length w

-- the places for nodes, in which nothing is flagged
pub record Blank (n : ℕ) (used bars : List Bool) (path : List ℕ) : Type 0 where
  pub idle : Idle (n + 1) used bars
  pub used_long : length used ≡ n + 1
  pub path_long : n ≤ length path

-- the search has begun: nothing is ranked, and the first path of all, if there is one, is the candidate
pub record Begins (n M : ℕ) (g : Graph) (s t : ℕ) (w w' : List ℕ) (count' : ℕ) : Type 0 where
  pub filled : Filled n M g s 0 w' count'
  pub search : Searching n g s t M far (entries n w' count') 0 []
  pub beyond : drop (M * (n + 16)) w' ≡ drop (M * (n + 16)) w

-- j paths are ranked: no branch is waiting, or no more paths are wanted
pub data Stage (n : ℕ) (g : Graph) (s t M : ℕ) (E : List Entry) (j : ℕ) : Type 0 where
  going : Searching n g s t M far E j [] → Stage n g s t M E j
  full : j ≡ M → (waiting : List Branch) → Searching n g s t M far E j waiting → Stage n g s t M E j

-- the entries are the first M paths, or all, in the ranking order, with their costs
pub record Ranked (n M : ℕ) (g : Graph) (s t : ℕ) (w w' : List ℕ) (count' : ℕ) : Type 0 where
  pub kept : Kept n M w' count'
  pub entered : Entered n g s (entries n w' count') count'
  pub paths : routes s (entries n w' count') ≡ take M (ranked n g s t)
  pub beyond : drop (M * (n + 16)) w' ≡ drop (M * (n + 16)) w
