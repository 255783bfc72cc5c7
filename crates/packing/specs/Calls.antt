-- docs/REFERENCE.md, sections 4.7 and 4.8: what Build and Unpack come to, for every image, list, number and length of a lent slice. Assumes nothing.
use Rattle.std.specs.Prelude.{ℕ, ◌*◌, ◌%◌, not, ◌&&◌, ◌||◌, List, [], ◌∷◌, ltb, eqb, length}
use Rattle.image.specs.Outcome.{Fault, row, ◌then◌, Outcome, outcome}
use Rattle.image.specs.Rows.{edition_row, in_range, pairs, lists_fault}
use Rattle.image.specs.Layout.{arc_count, column_count, total, half}
use Rattle.image.specs.Calls.{image_fault, sizes}

-- ---- Unpack
-- row 13 for lent slices of these lengths: it needs 2m and mk places
unfoldable pub unpack_fault : List ℕ → ℕ → ℕ → Fault
unpack_fault b nodes-room costs-room =
    image_fault b
    then row 13 0 (ltb nodes-room (2 * arc_count b) || ltb costs-room (arc_count b * column_count b))

-- Unpack gives n, m, k and the edition; both lists are written
unfoldable pub unpack_outcome : List ℕ → ℕ → ℕ → Outcome
unpack_outcome b nodes-room costs-room = outcome (unpack_fault b nodes-room costs-room) (sizes b)

-- ---- Build
-- row 2: the editions 1 and 2 are written; row 4: the node list is odd, or the costs are not mk; the rows of the lists; row 13: the image's
-- total is needed, in bytes
unfoldable pub build_fault : ℕ → ℕ → ℕ → List ℕ → List ℕ → ℕ → Fault
build_fault e n k nodes costs room =
    edition_row 2 e
    then row 3 0 (not (in_range n (half nodes) k))
    then row 4 0 (not (eqb (length nodes % 2) 0 && eqb (length costs) (half nodes * k)))
    then lists_fault e n (pairs (half nodes) nodes) costs
    then row 13 0 (ltb room (total (half nodes) k))

-- Build gives the length of the image; an image of edition e is written
unfoldable pub build_outcome : ℕ → ℕ → ℕ → List ℕ → List ℕ → ℕ → Outcome
build_outcome e n k nodes costs room = outcome (build_fault e n k nodes costs room) (total (half nodes) k ∷ [])
