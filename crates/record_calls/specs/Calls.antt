-- docs/REFERENCE.md, section 4.10: what Update comes to, for every image and every list. Assumes nothing.
use Rattle.std.specs.Prelude.{ℕ, suc, ◌%◌, not, ◌&&◌, cond, List, [], ◌∷◌, ltb, leb, eqb, length}
use Rattle.image.specs.Outcome.{Fault, sound, fault, row, ◌then◌, Outcome, outcome}
use Rattle.image.specs.Rows.{is_cost}
use Rattle.image.specs.Layout.{edition, arc_count, column_count}
use Rattle.image.specs.Calls.{image_fault}
use Rattle.record_calls.specs.Records.{Record, record_list}

-- the place of the record of index i: i itself, which is a number of 32 bits unless a list is longer than 64 GiB
unfoldable pub place : ℕ → ℕ
place i = i % 4294967296

-- rows 17, 18 and 9 for the record of index i, in an image of edition e with m arcs and k columns
unfoldable pub record_fault : ℕ → ℕ → ℕ → ℕ → Record → Fault
record_fault e m k i r =
    row 17 (place i) (not (ltb r.arc m))
    then row 18 (place i) (not (leb 1 r.column && leb r.column k))
    then row 9 (place i) (not (is_cost e r.cost))

-- records are looked at by index, and each by rows 17, 18 and 9 in that order
unfoldable pub records_fault : ℕ → ℕ → ℕ → ℕ → List Record → Fault
records_fault e m k i [] = sound
records_fault e m k i (r ∷ l) = record_fault e m k i r then records_fault e m k (suc i) l

-- of two rows the one with the lower number
unfoldable pub lower : Fault → Fault → Fault
lower sound g = g
lower (fault number place) sound = fault number place
lower (fault number place) (fault number' place') =
    cond (leb number number') (fault number place) (fault number' place')

-- the image's own rows, and among them row 4 for a list whose length isn't a multiple of four
unfoldable pub both_fault : List ℕ → List ℕ → Fault
both_fault b l = lower (image_fault b) (row 4 0 (not (eqb (length l % 4) 0)))

-- and then the rows of the records
unfoldable pub update_fault : List ℕ → List ℕ → Fault
update_fault b l =
    both_fault b l then records_fault (edition b) (arc_count b) (column_count b) 0 (record_list l)

-- Update gives no values; the image after the records is written
unfoldable pub update_outcome : List ℕ → List ℕ → Outcome
update_outcome b l = outcome (update_fault b l) []
