-- The arc between two nodes, as it is found in arrays. Assumes nothing.
use Rattle.std.specs.Prelude.{ℕ, ◌<◌, ◌≡◌, List, length, get_or, Option, Some, None}
use Rattle.star.specs.Arcs.{At}
use Rattle.star.specs.Search as search
use Rattle.star.specs.Star.{Star}
use Rattle.star.specs.declared.arcs.Sought.{Sought}

-- what an answer of the search says
abbrev pub sought : Sought → search.Sought
sought s = (s.arc, s.looks)

-- the index of the arc from v to y, looked for in arrays whose star is first: an index with head y, which is the arc's; or that no index is
pub data ArcFound (hs first : List ℕ) (v y : ℕ) : Option ℕ → Type 0 where
  here : {i : ℕ} → i < length hs → get_or hs i 0 ≡ y → ((n : ℕ) (ts : List ℕ) → Star n ts hs first → At ts hs v y i) → ArcFound hs first v y (Some i)
  missing : ((n : ℕ) (ts : List ℕ) → Star n ts hs first → (i : ℕ) → At ts hs v y i → ⊥) → ArcFound hs first v y None
