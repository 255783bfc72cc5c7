-- An accepted image as the layers above read it: its network's sizes and edition, its nodes and its columns. Assumes nothing.
use Rattle.std.specs.Prelude.{ℕ, ◌≤◌, ◌≡◌, List, length}
use Rattle.image.specs.Outcome.{sound}
use Rattle.image.specs.Layout.{edition, net_of}
use Rattle.image.specs.Calls.{image_fault}
use Rattle.image.specs.declared.check.Sizes.{Sizes}

-- image b is accepted, and these are its sizes: its network's n nodes, m arcs and k columns, and its edition
pub record Accepted (b : List ℕ) (sizes : Sizes) : Type 0 where
  pub passes : image_fault b ≡ sound
  pub nodes_are : sizes.n ≡ (net_of b).nodes
  pub arcs_are : sizes.m ≡ length (net_of b).arcs
  pub columns_are : sizes.k ≡ length (net_of b).columns
  pub edition_is : sizes.edition ≡ edition b

-- v is a node of 1 to n
pub record Node (n v : ℕ) : Type 0 where
  pub from : 1 ≤ v
  pub upto : v ≤ n

-- u is a column of the network of image b
pub record InColumn (b : List ℕ) (u : ℕ) : Type 0 where
  pub from : 1 ≤ u
  pub upto : u ≤ length (net_of b).columns

-- start and goal are nodes, and differ
pub record Ends (n s t : ℕ) : Type 0 where
  pub start_in : Node n s
  pub goal_in : Node n t
  pub apart : s ≡ t → ⊥
