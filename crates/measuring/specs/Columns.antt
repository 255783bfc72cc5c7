-- A network kept in two slices: the star, which has the topology of its arcs, and the costs of its columns, one after the other.
-- Assumes nothing.
use Rattle.std.specs.Prelude.{ℕ, ◌*◌, ◌-◌, ◌≤◌, ◌<◌, ◌≡◌, List, [], ◌∷◌, length, get_or, take, drop}
use Rattle.terms.specs.Network.{Net, cut}
use Rattle.star.specs.Layout.{tails_of, heads_of, Holds}

-- the arcs of tails and heads
unfoldable pub arc_pairs : List ℕ → List ℕ → List (ℕ × ℕ)
arc_pairs [] hs = []
arc_pairs (t ∷ ts) [] = []
arc_pairs (t ∷ ts) (h ∷ hs) = (t, h) ∷ arc_pairs ts hs

-- the network that the slices hold: n nodes, m arcs, and k columns of m costs, in arc order
unfoldable pub network : ℕ → ℕ → ℕ → List ℕ → List ℕ → Net
network n m k s costs = record { nodes = n; arcs = arc_pairs (tails_of m s) (heads_of m s); columns = cut k m costs }

-- the m costs of column u
abbrev pub column_costs : ℕ → List ℕ → ℕ → List ℕ
column_costs m costs u = take m (drop ((u - 1) * m) costs)

-- the slices hold k columns of m arcs between n nodes, within the ranges of an image
pub record HoldColumns (n m k : ℕ) (s costs : List ℕ) : Type 0 where
  pub columns_from : 1 ≤ k
  pub columns_to : k ≤ 8
  pub costs_long : length costs ≡ k * m
  pub graphs : (u : ℕ) → 1 ≤ u → u ≤ k → Holds n s (column_costs m costs u)
  pub costs_to : (i : ℕ) → i < length costs → get_or costs i 0 ≤ 1000000
