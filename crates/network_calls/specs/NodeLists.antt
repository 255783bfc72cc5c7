-- The first error of a node list, found in decoded arrays. Assumes nothing.
use Rattle.std.specs.Prelude.{ℕ, ◌-◌, ◌≤◌, ◌<◌, ◌≡◌, List, length, get_or, Option, Some, None}
use Rattle.star.specs.Arcs.{At}

-- the node at position i, after the first, does not repeat and has an arc from the node before
pub record GoesOn (ts hs nodes : List ℕ) (i : ℕ) : Type 0 where
  pub arc : (j : ℕ) × At ts hs (get_or nodes (i - 1) 0) (get_or nodes i 0) j
  pub new : (j : ℕ) → j < i → get_or nodes j 0 ≡ get_or nodes i 0 → ⊥

-- the first position whose node repeats or has no arc from the node before; the length if there is none
pub record FirstError (ts hs nodes : List ℕ) (place : ℕ) : Type 0 where
  pub after_first : 1 ≤ place
  pub upto : place ≤ length nodes
  pub right_before : (i : ℕ) → i < place → 1 ≤ i → GoesOn ts hs nodes i
  pub wrong_here : place < length nodes → GoesOn ts hs nodes place → ⊥

-- what is told of it: a position in the list, or none
abbrev pub first_error : List ℕ → List ℕ → List ℕ → Option ℕ → Type 0
first_error ts hs nodes (Some place) = FirstError ts hs nodes place × (place < length nodes)
first_error ts hs nodes None = FirstError ts hs nodes (length nodes)
