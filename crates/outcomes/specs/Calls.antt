-- docs/REFERENCE.md, sections 4.2 to 4.6 and 6: what Label, Shortest, Regret, Rank and Robust come to, for every image, list, number and length of a lent slice. Assumes nothing.
use Rattle.std.specs.Prelude.{ℕ, ◌+◌, ◌*◌, not, ◌&&◌, ◌||◌, List, [], ◌∷◌, map, leb, ltb, eqb, length, get_or, take, replicate}
use Rattle.std.proofs.Math.Option.{Option, none, some}
use Rattle.terms.specs.Network.{Graph, Net, column, common}
use Rattle.terms.specs.Paths.{Route, cost, paths}
use Rattle.terms.specs.Ranking.{ranked}
use Rattle.terms.specs.Regret.{labels, figure, worst, open_fault}
use Rattle.terms.specs.Robust.{Answer, settled, left_open, no_path, robust}
use Rattle.listing.specs.Rows.{rows_of}
use Rattle.image.specs.Outcome.{Fault, sound, fault, row, ◌then◌, Outcome, outcome, after}
use Rattle.image.specs.Rows.{is_node}
use Rattle.image.specs.Layout.{net_of}
use Rattle.image.specs.Calls.{image_fault}

-- ---- rows that calls share
-- row 10: start or goal is outside 1..n, or they are equal; Label has no start
unfoldable pub goal_row : Net → ℕ → Fault
goal_row net t = row 10 0 (not (is_node net.nodes t))

unfoldable pub ends_row : Net → ℕ → ℕ → Fault
ends_row net s t = row 10 0 (not (is_node net.nodes s && is_node net.nodes t) || eqb s t)

-- row 11: the column is outside 1..k
unfoldable pub column_row : Net → ℕ → Fault
column_row net u = row 11 0 (not (leb 1 u && leb u (length net.columns)))

-- row 12: K is outside 1..256
unfoldable pub count_row : ℕ → Fault
count_row K = row 12 0 (not (leb 1 K && leb K 256))

-- row 13, for a slice of this length that needs so many places
unfoldable pub room_row : ℕ → ℕ → Fault
room_row room need = row 13 0 (ltb room need)

-- row 14: the node list is no path, with its place
unfoldable pub list_row : Option ℕ → Fault
list_row none = sound
list_row (some place) = fault 14 place

-- row 15: there is no path of the call's own kind
unfoldable pub no_path_row : ℕ → Graph → ℕ → ℕ → Fault
no_path_row n g s t = row 15 0 (eqb (length (paths n g s t)) 0)

-- the rows before 12 of a call with a column, a start and a goal
unfoldable pub search_rows : List ℕ → ℕ → ℕ → ℕ → Fault
search_rows b u s t = (image_fault b then ends_row (net_of b) s t) then column_row (net_of b) u

-- the numbers of the workspace that Rank and Robust borrow (REFERENCE, section 3.5)
unfoldable pub workspace : ℕ → ℕ → ℕ
workspace n K = (K + 1) * (n + 16) + 16 * n + 64

-- the rows of Rank and Robust up to 13 for the workspace, which has this length
unfoldable pub ranking_rows : List ℕ → ℕ → ℕ → ℕ → ℕ → ℕ → Fault
ranking_rows b u s t K work =
    search_rows b u s t
    then count_row K
    then room_row work (workspace (net_of b).nodes K)

-- the workspace: after a result all of it is 0
unfoldable pub cleared : Fault → List ℕ → List ℕ
cleared f work = after f (replicate (length work) 0) work

-- ---- Label: column u, goal t; writes a label for each node, in n places
unfoldable pub label_fault : List ℕ → ℕ → ℕ → ℕ → Fault
label_fault b u t room =
    image_fault b
    then goal_row (net_of b) t
    then column_row (net_of b) u
    then room_row room (net_of b).nodes

unfoldable pub label_outcome : List ℕ → ℕ → ℕ → ℕ → Outcome
label_outcome b u t room = outcome (label_fault b u t room) []

-- the labels that are written
unfoldable pub labels_of : List ℕ → ℕ → ℕ → List ℕ
labels_of b u t = labels (net_of b).nodes (column (net_of b) u) t

-- ---- Shortest: column u, start s, goal t; writes the first path of the ranking order, gives its length and cost
-- the rows before 15
unfoldable pub shortest_rows : List ℕ → ℕ → ℕ → ℕ → ℕ → Fault
shortest_rows b u s t room = search_rows b u s t then room_row room (net_of b).nodes

-- row 15: no path is open in column u
unfoldable pub path_row : List ℕ → ℕ → ℕ → ℕ → Fault
path_row b u s t = no_path_row (net_of b).nodes (column (net_of b) u) s t

unfoldable pub shortest_fault : List ℕ → ℕ → ℕ → ℕ → ℕ → Fault
shortest_fault b u s t room = shortest_rows b u s t room then path_row b u s t

-- the path that is written
unfoldable pub shortest_of : List ℕ → ℕ → ℕ → ℕ → Route
shortest_of b u s t = get_or (ranked (net_of b).nodes (column (net_of b) u) s t) 0 []

-- its length and cost
unfoldable pub shortest_values : List ℕ → ℕ → ℕ → ℕ → List ℕ
shortest_values b u s t = length (shortest_of b u s t) ∷ cost (column (net_of b) u) (shortest_of b u s t) ∷ []

unfoldable pub shortest_outcome : List ℕ → ℕ → ℕ → ℕ → ℕ → Outcome
shortest_outcome b u s t room = outcome (shortest_fault b u s t room) (shortest_values b u s t)

-- ---- Regret: start s, goal t, a node list that is a path open in every column; gives its figure and worst column
unfoldable pub regret_fault : List ℕ → ℕ → ℕ → List ℕ → Fault
regret_fault b s t nodes = (image_fault b then ends_row (net_of b) s t) then list_row (open_fault (net_of b) s t nodes)

unfoldable pub regret_outcome : List ℕ → ℕ → ℕ → List ℕ → Outcome
regret_outcome b s t nodes = outcome (regret_fault b s t nodes) (figure (net_of b) s t nodes ∷ worst (net_of b) s t nodes ∷ [])

-- ---- Rank: column u, start s, goal t, K
-- the rows before 15, for slices of these lengths: K times n for the rows, and K for the costs
unfoldable pub rank_rows : List ℕ → ℕ → ℕ → ℕ → ℕ → ℕ → ℕ → ℕ → Fault
rank_rows b u s t K rows costs work =
    ranking_rows b u s t K work
    then room_row rows (K * (net_of b).nodes)
    then room_row costs K

unfoldable pub rank_fault : List ℕ → ℕ → ℕ → ℕ → ℕ → ℕ → ℕ → ℕ → Fault
rank_fault b u s t K rows costs work = rank_rows b u s t K rows costs work then path_row b u s t

-- the first K paths of the ranked list, or all
unfoldable pub rank_of : List ℕ → ℕ → ℕ → ℕ → ℕ → List Route
rank_of b u s t K = take K (ranked (net_of b).nodes (column (net_of b) u) s t)

-- what is written: the paths, one a row of n places that is filled up with 0, and their costs
unfoldable pub rank_rows_of : List ℕ → ℕ → ℕ → ℕ → ℕ → List ℕ
rank_rows_of b u s t K = rows_of (net_of b).nodes (rank_of b u s t K)

unfoldable pub rank_costs_of : List ℕ → ℕ → ℕ → ℕ → ℕ → List ℕ
rank_costs_of b u s t K = map (cost (column (net_of b) u)) (rank_of b u s t K)

-- the count
unfoldable pub rank_outcome : List ℕ → ℕ → ℕ → ℕ → ℕ → ℕ → ℕ → ℕ → Outcome
rank_outcome b u s t K rows costs work = outcome (rank_fault b u s t K rows costs work) (length (rank_of b u s t K) ∷ [])

-- ---- Robust: column r, start s, goal t, K
-- the rows before 15, for slices of these lengths: n for the path
unfoldable pub robust_rows : List ℕ → ℕ → ℕ → ℕ → ℕ → ℕ → ℕ → Fault
robust_rows b r s t K path work = ranking_rows b r s t K work then room_row path (net_of b).nodes

-- row 15: the ranked list is empty, for no path is open in every column
unfoldable pub choice_row : List ℕ → ℕ → ℕ → ℕ → Fault
choice_row b r s t = no_path_row (net_of b).nodes (column (common (net_of b)) r) s t

unfoldable pub robust_fault : List ℕ → ℕ → ℕ → ℕ → ℕ → ℕ → ℕ → Fault
robust_fault b r s t K path work = robust_rows b r s t K path work then choice_row b r s t

-- the answer of the stopping rule
unfoldable pub robust_of : List ℕ → ℕ → ℕ → ℕ → ℕ → Answer
robust_of b r s t K = robust (net_of b) r s t K

-- the path that is written
unfoldable pub chosen : Answer → Route
chosen (settled p f w c) = p
chosen (left_open p f w c floor) = p
chosen no_path = []

-- the path's length, figure and worst column, and the count; then the state, 1 settled or 2 open, and the floor, 0 if settled
unfoldable pub robust_values : Answer → List ℕ
robust_values (settled p f w c) = length p ∷ f ∷ w ∷ c ∷ 1 ∷ 0 ∷ []
robust_values (left_open p f w c floor) = length p ∷ f ∷ w ∷ c ∷ 2 ∷ floor ∷ []
robust_values no_path = []

unfoldable pub robust_outcome : List ℕ → ℕ → ℕ → ℕ → ℕ → ℕ → ℕ → Outcome
robust_outcome b r s t K path work = outcome (robust_fault b r s t K path work) (robust_values (robust_of b r s t K))
