-- docs/REFERENCE.md, section 4.10: records of costs, which of them count, and the image after them. Assumes nothing.
use Rattle.std.specs.Prelude.{ℕ, zero, suc, ◌+◌, ◌/◌, ◌%◌, Bool, ◌&&◌, cond, List, [], ◌∷◌, ◌++◌, leb, eqb, length, get_or, take, drop}
use Rattle.std.proofs.Math.Option.{Option, none, some}
use Rattle.image.specs.Bytes.{encode}
use Rattle.image.specs.Layout.{arc_count, costs_start, cost_list}

-- what a van tells of one arc in one column: its cost, and a stamp
pub record Record : Type 0 where
  pub arc : ℕ
  pub column : ℕ
  pub cost : ℕ
  pub stamp : ℕ

abbrev pub record_of : ℕ → ℕ → ℕ → ℕ → Record
record_of arc column cost stamp = record { arc = arc; column = column; cost = cost; stamp = stamp }

-- the first c records of a list of numbers, four each
unfoldable pub records_in : ℕ → List ℕ → List Record
records_in zero l = []
records_in (suc c) l = record_of (get_or l 0 0) (get_or l 1 0) (get_or l 2 0) (get_or l 3 0) ∷ records_in c (drop 4 l)

unfoldable pub record_list : List ℕ → List Record
record_list l = records_in (length l / 4) l

-- ---- which record counts
unfoldable pub is_about : ℕ → ℕ → Record → Bool
is_about arc column r = eqb r.arc arc && eqb r.column column

-- a record, or the one that counts behind it, if that one's stamp is no smaller
unfoldable pub counting : Record → Option Record → Record
counting r none = r
counting r (some later) = cond (leb r.stamp later.stamp) later r

-- the winning record of an arc and a column: the greatest stamp counts, and of equal stamps the later in the list
unfoldable pub winner : ℕ → ℕ → List Record → Option Record
winner arc column [] = none
winner arc column (r ∷ l) =
    let later = winner arc column l in cond (is_about arc column r) (some (counting r later)) later

-- ---- the image after a list
-- the winner's cost, or the old one if there is no record
unfoldable pub cost_after : Option Record → ℕ → ℕ
cost_after none old = old
cost_after (some r) old = r.cost

-- the costs of m arcs, from place i on: at place i stands the cost of arc i % m in column i / m + 1
unfoldable pub costs_after : ℕ → List Record → ℕ → List ℕ → List ℕ
costs_after m records i [] = []
costs_after m records i (c ∷ l) = cost_after (winner (i % m) (i / m + 1) records) c ∷ costs_after m records (suc i) l

-- what stands before the costs, and the costs
unfoldable pub image_after : List ℕ → List Record → List ℕ
image_after b records =
    take (costs_start (arc_count b)) b ++ encode 4 (costs_after (arc_count b) records 0 (cost_list b))
