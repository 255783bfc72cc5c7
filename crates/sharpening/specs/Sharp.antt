-- Labels that are raised, and how raised labels are mended so that they are consistent. Assumes nothing.
use Rattle.std.specs.Prelude.{ℕ, ◌+◌, ◌≤◌, ◌<◌, ◌≡◌, Bool, true, false, ◌⊎◌, List, length, get_or}
use Rattle.terms.specs.Network.{Graph, linked, weight}
use Rattle.labels.specs.Labels.{far}
use Rattle.exits.specs.Small.{Small}

-- a list of places below k, of which the first `met` count, and the first `taken` of these are set apart
pub record Listed (k : ℕ) (nodes : List ℕ) (taken met : ℕ) : Type 0 where
  pub below : (j : ℕ) → get_or nodes j 0 < k
  pub part : taken ≤ met
  pub upto : met ≤ length nodes

-- what the search goes by: a key for each node, and the list of those that it met and took
pub record IsFront (k : ℕ) (keys nodes : List ℕ) (taken met : ℕ) : Type 0 where
  pub few : k ≤ 201
  pub keyed : Small k keys
  pub nodes_long : length nodes ≡ k
  pub listed : Listed k nodes taken met

-- what is seen of it: nodes have the places below `places`, those of the list were taken, and so many were met
pub record Seen : Type 0 where
  pub places : ℕ
  pub taken : List ℕ
  pub met : ℕ

-- no node was taken in between
pub record Same (s s' : Seen) : Type 0 where
  pub places : s'.places ≡ s.places
  pub taken : s'.taken ≡ s.taken

-- a node that was met and not taken stands at that place
pub record Picked (s : Seen) (at : ℕ) : Type 0 where
  pub behind : length s.taken ≤ at
  pub before : at < s.met
  pub upto : s.met ≤ 201

-- x is one of the first `count` nodes
pub record Among (nodes : List ℕ) (count x : ℕ) : Type 0 where
  pub place : ℕ
  pub before : place < count
  pub is : get_or nodes place 0 ≡ x

-- only the label of x may have changed, and it is no less
pub record Raises (x : ℕ) (ls ls' : List ℕ) : Type 0 where
  pub others : (z : ℕ) → (z ≡ x → ⊥) → get_or ls' z 0 ≡ get_or ls z 0
  pub no_less : get_or ls x 0 ≤ get_or ls' x 0

-- labels ls are os, but for the first `count` nodes, whose labels may be greater; not that of t
pub record Lifted (t : ℕ) (nodes : List ℕ) (count : ℕ) (os ls : List ℕ) : Type 0 where
  pub goal_kept : get_or ls t 0 ≡ get_or os t 0
  pub no_less : (x : ℕ) → get_or os x 0 ≤ get_or ls x 0
  pub each : (x : ℕ) → (get_or ls x 0 ≡ get_or os x 0) ⊎ Among nodes count x

-- the label of x is no more than weight and label of any node that is not used and to which an arc goes
pub record Fits (g : Graph) (used : List Bool) (ls : List ℕ) (x : ℕ) : Type 0 where
  pub along : (y : ℕ) → linked g x y ≡ true → get_or used y false ≡ false → get_or ls y 0 < far → (get_or ls x 0 < far) × (get_or ls x 0 ≤ weight g x y + get_or ls y 0)

-- the label of x was raised as far as it fits
pub record Mends (g : Graph) (used : List Bool) (x : ℕ) (ls ls' : List ℕ) : Type 0 where
  pub raises : Raises x ls ls'
  pub fits : Fits g used ls' x
