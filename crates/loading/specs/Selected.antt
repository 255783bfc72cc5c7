-- Some of a network's arcs, by their indices. Assumes nothing.
use Rattle.std.specs.Prelude.{ℕ, ◌≡◌, Bool, true, not, List, [], ◌∷◌, ◌++◌, map, eqb, get_or}
use Rattle.terms.specs.Lists.{keep, numbers}
use Rattle.terms.specs.Network.{Net, mark, open_in}

-- the indices of those of m arcs that pass a test, in their order
abbrev pub passing : (ℕ → Bool) → ℕ → List ℕ
passing f m = keep f (numbers 0 m)

-- ks are such indices
pub record Indices (m : ℕ) (ks : List ℕ) : Type 0 where
  pub test : ℕ → Bool
  pub are : ks ≡ passing test m

-- and each of these arcs is open in column u
pub record OpenIndices (net : Net) (u m : ℕ) (ks : List ℕ) : Type 0 where
  pub test : ℕ → Bool
  pub are : ks ≡ passing test m
  pub opened : (i : ℕ) → test i ≡ true → open_in net u i ≡ true

-- what a list of costs has at these indices
abbrev pub at_places : List ℕ → List ℕ → List ℕ
at_places ks l = map (λ i. get_or l i 0) ks

-- is there no mark at index i
abbrev pub unmarked_at : List ℕ → ℕ → Bool
unmarked_at costs i = not (eqb (get_or costs i 0) mark)

-- the network of the arcs at these indices, with what each column has for them
unfoldable pub selected : List ℕ → Net → Net
selected ks net = record { nodes = net.nodes; arcs = map (λ i. get_or net.arcs i (0, 0)) ks; columns = map (at_places ks) net.columns }

-- columns one after the other
unfoldable pub in_a_row : List (List ℕ) → List ℕ
in_a_row [] = []
in_a_row (c ∷ l) = c ++ in_a_row l
