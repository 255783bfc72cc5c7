-- What the arrays say of a network, for a start and a goal: its arcs, their costs, the labels and the bests. Assumes nothing.
use Rattle.std.specs.Prelude.{ℕ, suc, ◌+◌, ◌-◌, ◌*◌, ◌≤◌, ◌<◌, ◌≡◌, true, false, List, leb, length, get_or, take, drop}
use Rattle.terms.specs.Network.{Graph, Net, mark, heads, linked, weight, column}
use Rattle.terms.specs.Paths.{paths}
use Rattle.terms.specs.Regret.{best, label}
use Rattle.star.specs.Layout.{heads_of, outs_of}
use Rattle.labels.specs.Labels.{far}
use Rattle.descent.specs.Rule.{drawn}
use Rattle.descent.specs.Rows.{at_row, Rows}

-- in one column w is the cost of the arc from v to h, or the mark of a closed one
pub data CostIn (g : Graph) (v h w : ℕ) : Type 0 where
  closed_there : w ≡ mark → linked g v h ≡ false → CostIn g v h w
  open_there : w ≤ 1000000 → linked g v h ≡ true → weight g v h ≡ w → CostIn g v h w

-- in one column l is the label of h, or the mark of a node that can't reach the goal
pub data LabelIn (n : ℕ) (g : Graph) (t h l : ℕ) : Type 0 where
  no_way : l ≡ far → leb 1 (length (paths n g h t)) ≡ false → LabelIn n g t h l
  reached : l ≤ 1000000000000 → leb 1 (length (paths n g h t)) ≡ true → label n g t h ≡ l → LabelIn n g t h l

-- the heads of the arcs out of v stand in hs from outs[v] to below outs[v + 1]
unfoldable pub heads_at : List ℕ → List ℕ → ℕ → List ℕ
heads_at hs outs v = take (get_or outs (v + 1) 0 - get_or outs v 0) (drop (get_or outs v 0) hs)

pub record Tables (net : Net) (s t : ℕ) (hs outs costs labels bests : List ℕ) (places : ℕ) : Type 0 where
  pub nodes_are : places ≡ net.nodes + 1
  pub columns_are : length net.columns ≡ length bests
  pub heads_are : (v : ℕ) → v < places → heads (drawn net) v ≡ heads_at hs outs v
  pub costs_are : (u v i : ℕ) → u < length bests → v < places → get_or outs v 0 ≤ i → i < get_or outs (v + 1) 0 → CostIn (column net (suc u)) v (get_or hs i 0) (at_row (length hs) costs u i)
  pub labels_are : (u h : ℕ) → u < length bests → 1 ≤ h → h < places → LabelIn net.nodes (column net (suc u)) t h (at_row places labels u h)
  pub bests_are : (u : ℕ) → u < length bests → get_or bests u 0 ≡ best net.nodes (column net (suc u)) s t

-- ---- what keeps every index inside, of the arrays alone
pub record Ground (hs outs costs labels bests : List ℕ) (places : ℕ) : Type 0 where
  pub columns_from : 1 ≤ length bests
  pub rows : Rows (length hs) places costs labels bests
  pub few : places ≤ 201
  pub outs_long : length outs ≡ places + 1
  pub outs_within : (v : ℕ) → v ≤ places → get_or outs v 0 ≤ length hs
  pub head_from : (i : ℕ) → i < length hs → 1 ≤ get_or hs i 0
  pub head_in : (i : ℕ) → i < length hs → get_or hs i 0 < places

-- ---- the same with the heads, and where the arcs out of each node begin, in a star of so many arcs
pub record Fits (arcs places : ℕ) (star costs labels bests : List ℕ) : Type 0 where
  pub arcs_to : arcs ≤ 1000
  pub star_long : length star ≡ 3 * arcs + places + 1 + places
  pub ground : Ground (heads_of arcs star) (outs_of places arcs star) costs labels bests places

abbrev pub TablesIn : Net → ℕ → ℕ → ℕ → ℕ → List ℕ → List ℕ → List ℕ → List ℕ → Type 0
TablesIn net s t arcs places star costs labels bests = Tables net s t (heads_of arcs star) (outs_of places arcs star) costs labels bests places
