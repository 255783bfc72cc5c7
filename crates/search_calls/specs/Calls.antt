-- docs/REFERENCE.md, sections 4.11 and 6: what Search comes to, for every image, number and length of the lent slice. Assumes nothing.
use Rattle.std.specs.Prelude.{ℕ, List, [], ◌∷◌, ltb, length}
use Rattle.terms.specs.Network.{column, common}
use Rattle.terms.specs.Paths.{Route}
use Rattle.terms.specs.Regret.{figure, worst}
use Rattle.image.specs.Outcome.{Fault, row, ◌then◌, Outcome, outcome}
use Rattle.image.specs.Layout.{net_of}
use Rattle.image.specs.Calls.{image_fault}
use Rattle.outcomes.specs.Calls.{ends_row, room_row, no_path_row}
use Rattle.descent.specs.Rule.{Best, nothing, held, State, search}

-- ---- start s, goal t, and a limit on the arcs tried; writes the path found, gives its length, figure and worst column, and the arcs tried
-- the rows before 15: the image's, 10, and 13 for a slice of this length, which needs n places
unfoldable pub entry_rows : List ℕ → ℕ → ℕ → ℕ → Fault
entry_rows b s t room = (image_fault b then ends_row (net_of b) s t) then room_row room (net_of b).nodes

-- what the rule finds, and how many arcs it tries
unfoldable pub search_of : List ℕ → ℕ → ℕ → State
search_of b s t = search (net_of b) s t

-- row 19: the rule tries more arcs than the limit, which is the place
unfoldable pub limit_of : List ℕ → ℕ → ℕ → ℕ → Fault
limit_of b s t limit = row 19 limit (ltb limit (search_of b s t).tried)

-- row 15, no path is open in every column, and row 19
unfoldable pub decided_rows : List ℕ → ℕ → ℕ → ℕ → Fault
decided_rows b s t limit = no_path_row (net_of b).nodes (column (common (net_of b)) 1) s t then limit_of b s t limit

unfoldable pub search_fault : List ℕ → ℕ → ℕ → ℕ → ℕ → Fault
search_fault b s t limit room = entry_rows b s t room then decided_rows b s t limit

-- the path that is written
unfoldable pub path_of : Best → Route
path_of nothing = []
path_of (held p f) = p

unfoldable pub search_path : List ℕ → ℕ → ℕ → Route
search_path b s t = path_of (search_of b s t).found

-- its length, figure and worst column, and the arcs tried
unfoldable pub search_values : List ℕ → ℕ → ℕ → List ℕ
search_values b s t =
    length (search_path b s t) ∷ figure (net_of b) s t (search_path b s t) ∷ worst (net_of b) s t (search_path b s t) ∷ (search_of b s t).tried ∷ []

unfoldable pub search_outcome : List ℕ → ℕ → ℕ → ℕ → ℕ → Outcome
search_outcome b s t limit room = outcome (search_fault b s t limit room) (search_values b s t)
