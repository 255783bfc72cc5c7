-- The columns in arrays, one after the other, and what one arc means in them. Assumes nothing.
use Rattle.std.specs.Prelude.{ℕ, ◌+◌, ◌*◌, ◌-◌, ◌≤◌, ◌<◌, ◌≡◌, Bool, true, false, ◌||◌, List, eqb, leb, length, get_or}
use Rattle.terms.specs.Network.{mark}
use Rattle.labels.specs.Labels.{far}

-- ---- one column: is the arc closed, can its head not reach the goal, or is the outlook at least the figure
unfoldable pub stops : ℕ → ℕ → ℕ → ℕ → ℕ → Bool
stops cost label best sum figure = eqb cost mark || (eqb label far || leb figure (sum + cost + label - best))

-- ---- all columns
-- as many costs in each column as there are arcs, as many labels as there are places for nodes
pub record Rows (arcs places : ℕ) (costs labels bests : List ℕ) : Type 0 where
  pub columns_to : length bests ≤ 8
  pub costs_long : length costs ≡ length bests * arcs
  pub labels_long : length labels ≡ length bests * places
  pub labels_low : (x : ℕ) → get_or labels x 0 < far → get_or labels x 0 ≤ 1000000000000

-- the cost of arc i, and the label of node h, in column u, from 0
abbrev pub at_row : ℕ → List ℕ → ℕ → ℕ → ℕ
at_row stride l u i = get_or l (u * stride + i) 0

-- sums over at most d arcs
pub record Low (d : ℕ) (sums : List ℕ) : Type 0 where
  pub long : length sums ≡ 8
  pub low : (u : ℕ) → get_or sums u 0 ≤ 4294967296 * d

-- is the head h of arc i dropped: in some column, or in none
pub data Drops (arcs places i h : ℕ) (costs labels bests sums : List ℕ) (figure : ℕ) : Bool → Type 0 where
  in_column : (u : ℕ) → u < length bests → stops (at_row arcs costs u i) (at_row places labels u h) (get_or bests u 0) (get_or sums u 0) figure ≡ true → Drops arcs places i h costs labels bests sums figure true
  in_none : ((u : ℕ) → u < length bests → stops (at_row arcs costs u i) (at_row places labels u h) (get_or bests u 0) (get_or sums u 0) figure ≡ false) → Drops arcs places i h costs labels bests sums figure false

-- the sums with arc i
pub record Lengthened (arcs i : ℕ) (columns : ℕ) (costs sums sums' : List ℕ) : Type 0 where
  pub longer : (u : ℕ) → u < columns → get_or sums' u 0 ≡ get_or sums u 0 + at_row arcs costs u i
  pub low : (d : ℕ) → Low d sums → Low (d + 1) sums'
