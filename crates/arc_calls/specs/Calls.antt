-- docs/REFERENCE.md, section 4.9: what Find comes to, for every image and every two numbers. Assumes nothing.
use Rattle.std.specs.Prelude.{ℕ, ◌≤◌, ◌<◌, ◌≡◌, List, [], ◌∷◌, map, length, get_or, Some, None}
use Rattle.image.specs.Outcome.{Outcome, outcome}
use Rattle.image.specs.Layout.{net_of}
use Rattle.image.specs.Calls.{image_fault}
use Rattle.star.specs.Search.{Sought, seek}

-- the search among all records of the image
unfoldable pub find_of : List ℕ → ℕ → ℕ → Sought
find_of b tail head = seek (map (λ a. a.0) (net_of b).arcs) (map (λ a. a.1) (net_of b).arcs) (tail, head) 0 (length (net_of b).arcs)

-- found or not, 1 or 0; the index, 0 if there is none; the number of records looked at
unfoldable pub find_values : Sought → List ℕ
find_values (Some index, looks) = 1 ∷ index ∷ looks ∷ []
find_values (None, looks) = 0 ∷ 0 ∷ looks ∷ []

-- the image's rows are all that Find has: a node outside 1..n has no arc
unfoldable pub find_outcome : List ℕ → ℕ → ℕ → Outcome
find_outcome b tail head = outcome (image_fault b) (find_values (find_of b tail head))

-- ---- what is found
-- arc x has index i
pub record Stands (arcs : List (ℕ × ℕ)) (x : ℕ × ℕ) (i : ℕ) : Type 0 where
  pub below : i < length arcs
  pub is : get_or arcs i (0, 0) ≡ x

-- an index exactly of the arc, none exactly when no record is the arc, and never more than 10 looks
pub record FindsArc (arcs : List (ℕ × ℕ)) (x : ℕ × ℕ) (s : Sought) : Type 0 where
  pub index_right : (i : ℕ) → s.0 ≡ Some i → Stands arcs x i
  pub index_found : (i : ℕ) → Stands arcs x i → s.0 ≡ Some i
  pub none_right : s.0 ≡ None → (i : ℕ) → Stands arcs x i → ⊥
  pub none_found : ((i : ℕ) → Stands arcs x i → ⊥) → s.0 ≡ None
  pub few : s.1 ≤ 10
