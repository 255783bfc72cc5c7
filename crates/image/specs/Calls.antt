-- docs/REFERENCE.md, section 4.1: what Check comes to, for every image. Assumes nothing.
use Rattle.std.specs.Prelude.{ℕ, not, List, [], ◌∷◌, ltb, eqb, length}
use Rattle.image.specs.Outcome.{Fault, row, ◌then◌, Outcome, outcome}
use Rattle.image.specs.Rows.{edition_row, in_range, pairs, lists_fault}
use Rattle.image.specs.Layout.{edition, node_count, arc_count, column_count, fields_right, total, node_list, cost_list}

-- rows 1 to 5, for a call that takes the editions from 1 to `latest`
unfoldable pub header_fault : ℕ → List ℕ → Fault
header_fault latest b =
    row 1 0 (ltb (length b) 24)
    then edition_row latest (edition b)
    then row 3 0 (not (in_range (node_count b) (arc_count b) (column_count b)))
    then row 4 0 (not (fields_right b (arc_count b) (column_count b)))
    then row 5 0 (not (eqb (length b) (total (arc_count b) (column_count b))))

-- the image's own rows, 1 to 9, for such a call
unfoldable pub taken_fault : ℕ → List ℕ → Fault
taken_fault latest b = header_fault latest b then lists_fault (edition b) (node_count b) (pairs (arc_count b) (node_list b)) (cost_list b)

-- and for a call that takes the editions 1 and 2, as all calls do
unfoldable pub image_fault : List ℕ → Fault
image_fault b = taken_fault 2 b

-- Check gives n, m, k and the edition
unfoldable pub sizes : List ℕ → List ℕ
sizes b = node_count b ∷ arc_count b ∷ column_count b ∷ edition b ∷ []

unfoldable pub check_outcome : List ℕ → Outcome
check_outcome b = outcome (image_fault b) (sizes b)
