-- The arcs below an index, chained. Assumes nothing.
use Rattle.std.specs.Prelude.{ℕ, ◌<◌, List, length, get_or}
use Rattle.star.specs.Chains.{LastInto}

-- the arcs below index k are chained
pub record Chained (hs first next : List ℕ) (k : ℕ) : Type 0 where
  pub starts : (h : ℕ) → h < length first → LastInto hs h k (get_or first h 0)
  pub goes_on : (i : ℕ) → i < k → LastInto hs (get_or hs i 0) i (get_or next i 0)
