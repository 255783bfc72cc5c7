-- docs/REFERENCE.md, section 2: the fields and lists of an image, the image that lists are written to, and the network it means. Assumes nothing.
use Rattle.std.specs.Prelude.{ℕ, ◌+◌, ◌*◌, ◌/◌, Bool, ◌&&◌, List, [], ◌∷◌, ◌++◌, eqb, length, drop}
use Rattle.terms.specs.Network.{Net, cut}
use Rattle.image.specs.Bytes.{field, decode, encode}
use Rattle.image.specs.Rows.{pairs}

-- ---- the header of 24 bytes, by offset
unfoldable pub edition : List ℕ → ℕ
edition b = field 2 b 0

-- n, m and k
unfoldable pub node_count : List ℕ → ℕ
node_count b = field 2 b 2

unfoldable pub arc_count : List ℕ → ℕ
arc_count b = field 2 b 4

unfoldable pub column_count : List ℕ → ℕ
column_count b = field 2 b 6

-- where the costs start, 24 + 4m, and the total length, 24 + 4m + 4mk
unfoldable pub costs_start : ℕ → ℕ
costs_start m = 24 + 4 * m

unfoldable pub total : ℕ → ℕ → ℕ
total m k = costs_start m + 4 * (m * k)

-- at 8 the offset of the arcs, at 12 that of the costs, at 16 the total, at 20 the reserved field, 0
unfoldable pub fields_right : List ℕ → ℕ → ℕ → Bool
fields_right b m k =
    eqb (field 4 b 8) 24 && (eqb (field 4 b 12) (costs_start m) && (eqb (field 4 b 16) (total m k) && eqb (field 4 b 20) 0))

-- ---- the lists of an image
-- arcs: m records of tail and head, 2 bytes each
unfoldable pub nodes_in : ℕ → List ℕ → List ℕ
nodes_in m b = decode 2 (2 * m) (drop 24 b)

-- costs: k columns of m numbers of 4 bytes, in arc order
unfoldable pub costs_in : ℕ → ℕ → List ℕ → List ℕ
costs_in m k b = decode 4 (m * k) (drop (costs_start m) b)

unfoldable pub node_list : List ℕ → List ℕ
node_list b = nodes_in (arc_count b) b

unfoldable pub cost_list : List ℕ → List ℕ
cost_list b = costs_in (arc_count b) (column_count b) b

-- ---- the image of lists: edition, n, k, 2m node numbers and mk costs
unfoldable pub header : ℕ → ℕ → ℕ → ℕ → List ℕ
header e n m k = encode 2 (e ∷ n ∷ m ∷ k ∷ []) ++ encode 4 (24 ∷ costs_start m ∷ total m k ∷ 0 ∷ [])

-- in Build m is half the list's length, rounded down
unfoldable pub half : List ℕ → ℕ
half nodes = length nodes / 2

unfoldable pub image_of : ℕ → ℕ → ℕ → List ℕ → List ℕ → List ℕ
image_of e n k nodes costs = header e n (half nodes) k ++ (encode 2 nodes ++ encode 4 costs)

-- ---- what an image means
-- the network of an image
unfoldable pub net_of : List ℕ → Net
net_of b = record {
  nodes = node_count b;
  arcs = pairs (arc_count b) (node_list b);
  columns = cut (column_count b) (arc_count b) (cost_list b);
}
