-- The network whose columns are lent, and what one column has. Assumes nothing.
use Rattle.std.specs.Prelude.{ℕ, ◌≤◌, List}
use Rattle.terms.specs.Network.{Net}
use Rattle.measuring.specs.Columns.{network, column_costs}
use Rattle.measuring.specs.declared.columns.Columns.{Columns}

-- the network
abbrev pub network_of : Columns → Net
network_of c = network c.nodes c.arcs c.count c.star.now c.costs.now

-- u is one of the columns
pub record IsColumn (c : Columns) (u : ℕ) : Type 0 where
  pub from : 1 ≤ u
  pub upto : u ≤ c.count

-- the cost of each arc in column u
abbrev pub costs_in : Columns → ℕ → List ℕ
costs_in c u = column_costs c.arcs c.costs.now u
