-- The labels of all columns. Assumes nothing.
use Rattle.std.specs.Prelude.{ℕ, suc, ◌*◌, ◌≤◌, ◌<◌, ◌≡◌, List, length, get_or}
use Rattle.terms.specs.Network.{Net, column}
use Rattle.labels.specs.Labels.{far}
use Rattle.descent.specs.Rows.{at_row}
use Rattle.descent.specs.Tables.{LabelIn}

-- the labels to t of the first k columns, one column after the other
pub record LabelRows (net : Net) (t k places : ℕ) (labels : List ℕ) : Type 0 where
  pub long : length labels ≡ k * places
  pub low : (x : ℕ) → get_or labels x 0 < far → get_or labels x 0 ≤ 1000000000000
  pub labels_are : (u h : ℕ) → u < k → 1 ≤ h → h < places → LabelIn net.nodes (column net (suc u)) t h (at_row places labels u h)
