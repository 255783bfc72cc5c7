-- The arcs out of each node, for arcs that rise by tail, then head: where those of each node begin, and what the arrays hold,
-- so that no index lies outside. Assumes nothing.
use Rattle.std.specs.Prelude.{ℕ, ◌+◌, ◌≤◌, ◌<◌, ◌≡◌, List, length, get_or}

-- the arcs out of v are at the indices from first[v] to below first[v + 1], in the order of their heads
pub record Star (n : ℕ) (ts hs first : List ℕ) : Type 0 where
  pub long : length first ≡ n + 2
  pub within : (v : ℕ) → v ≤ n + 1 → get_or first v 0 ≤ length ts
  pub ordered : (v : ℕ) → v ≤ n → get_or first v 0 ≤ get_or first (v + 1) 0
  pub out_of : (v i : ℕ) → v ≤ n → get_or first v 0 ≤ i → i < get_or first (v + 1) 0 → get_or ts i 0 ≡ v
  pub out : (v i : ℕ) → v ≤ n → i < length ts → get_or ts i 0 ≡ v → (get_or first v 0 ≤ i) × (i < get_or first (v + 1) 0)
  pub rising : (i j : ℕ) → i < j → j < length ts → get_or ts i 0 ≡ get_or ts j 0 → get_or hs i 0 < get_or hs j 0

-- ---- how it is made
-- tails that rise, few enough for 16 bits
pub record RisingTails (ts : List ℕ) : Type 0 where
  pub rising : (i j : ℕ) → i ≤ j → j < length ts → get_or ts i 0 ≤ get_or ts j 0
  pub few : length ts < 65536

-- the tails below v are those before index c
pub record Cut (ts : List ℕ) (v c : ℕ) : Type 0 where
  pub within : c ≤ length ts
  pub before : (j : ℕ) → j < c → get_or ts j 0 < v
  pub from : (j : ℕ) → c ≤ j → j < length ts → v ≤ get_or ts j 0

-- ---- what is read on the way
-- heads of arcs, with weights and the places below k for nodes
pub record Heads (k : ℕ) (hs ws : List ℕ) : Type 0 where
  pub weights_long : length ws ≡ length hs
  pub head_from : (i : ℕ) → i < length hs → 1 ≤ get_or hs i 0
  pub head_in : (i : ℕ) → i < length hs → get_or hs i 0 < k

-- where the arcs of each node begin and end
pub record Starts (k : ℕ) (hs first : List ℕ) : Type 0 where
  pub long : length first ≡ k + 1
  pub within : (v : ℕ) → v ≤ k → get_or first v 0 ≤ length hs
  pub ordered : (v : ℕ) → v < k → get_or first v 0 ≤ get_or first (v + 1) 0
