-- What the search for each column's least cost reads. Assumes nothing.
use Rattle.std.specs.Prelude.{ℕ, ◌+◌, ◌≤◌, ◌≡◌, List, [], length}
use Rattle.terms.specs.Network.{column}
use Rattle.terms.specs.Paths.{Route, Path}
use Rattle.star.specs.Layout.{graph_of}
use Rattle.labels.specs.Labels.{Least}
use Rattle.measuring.specs.Networks.{network_of, costs_in, IsColumn}
use Rattle.measuring.specs.declared.columns.Columns.{Columns}

-- in some column a path goes from a to t: then one does in all
pub record Joined (c : Columns) (a t : ℕ) : Type 0 where
  pub start_from : 1 ≤ a
  pub start_to : a ≤ c.nodes
  pub goal_to : t ≤ c.nodes
  pub in_column : ℕ
  pub is_column : IsColumn c in_column
  pub route : Route
  pub path : Path (column (network_of c) in_column) a t route

-- ls are the labels of column u, to the goal t
pub record Labelled (c : Columns) (t u : ℕ) (ls : List ℕ) : Type 0 where
  pub long : length ls ≡ c.nodes + 1
  pub least : Least (graph_of c.star.now (costs_in c u)) [] t ls
