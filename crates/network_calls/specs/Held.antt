-- The arcs of an accepted image that are open in every column, with all columns for them and each column's best, and what else the measure of
-- a path, or a search for the path of least greatest regret, is asked and lent. Assumes nothing.
use Rattle.std.specs.Prelude.{ℕ, ◌+◌, ◌*◌, ◌≤◌, ◌≡◌, List, length}
use Rattle.terms.specs.Network.{Net, column, common}
use Rattle.terms.specs.Paths.{Route, OpenPath}
use Rattle.terms.specs.Regret as terms
use Rattle.image.specs.Outcome.{Fault}
use Rattle.loading.specs.Accepted.{Ends}
use Rattle.measuring.specs.declared.columns.Columns.{Columns}
use Rattle.choosing.specs.Given.{Priced}
use Rattle.outcomes.specs.Calls.{no_path_row}

-- ---- what is asked
-- row 15 for a network: no path from s to t is open in every column
abbrev pub no_open_path : Net → ℕ → ℕ → ℕ → Fault
no_open_path net r s t = no_path_row net.nodes (column (common net) r) s t

-- ---- what is held
-- a path that is open in every column goes from s to t
pub record Reached (net : Net) (s t : ℕ) : Type 0 where
  pub ends : Ends net.nodes s t
  pub route : Route
  pub path : OpenPath net s t route

-- best(u) for each column u of the network, whose arcs that are open in every column have the columns c
pub record Held (net : Net) (c : Columns) (s t : ℕ) (bests : List ℕ) : Type 0 where
  pub bests_are : bests ≡ terms.bests net s t
  pub priced : Priced c s t bests

-- ---- what is lent
-- slices long enough for one path, and for a workspace of K + 1 slots
pub record ChoiceSlices (n K : ℕ) (path work : List ℕ) : Type 0 where
  pub wanted_from : 1 ≤ K
  pub wanted_to : K ≤ 256
  pub path_long : n ≤ length path
  pub slots_long : (K + 1) * (n + 16) ≤ length work
