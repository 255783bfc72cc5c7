-- The network without the closed arcs. Assumes nothing.
use Prim.Native.Nat.{ℕ, ◌+◌, ◌≤◌}
use native.Mathlib.Omega.{arith}
use mathlib.Core.Path.{◌≡◌, sym, ◌∙◌, ap}
use mathlib.Core.Bool.{Bool, not, ◌&&◌}
use mathlib.Core.List.{List, [], map, map-map}
use lib.ListN.{length, get_or, replicate, length-map}
use Rattle.terms.specs.Lists.{elem, keep, pick, numbers}
use Rattle.terms.specs.Network.{Net, mark, cost_column, restrict, open_in, open_everywhere, common, Admitted}
use Rattle.terms.proofs.ListLaws.{map_same, pick_places, length_numbers}
use Rattle.terms.proofs.NetworkLaws.{costs_restrict, costs_long, restrict_all, restrict_admitted, restrict_columns, restrict_nodes}
use lib.Dec.{eqb}
use Rattle.closures.specs.Map.{shut, left, without, closed_roads}
use Rattle.closures.proofs.PickLaws.{keep_others, old_place, picked_at, pick_pick}
use Rattle.closures.proofs.MapLaws.{fresh_open, short_open}

-- it has the same columns and nodes, and is admitted
pub without_columns : (words : List ℕ) (net : Net) → length (without words net).columns ≡ length net.columns
unfolding without
without_columns words net = restrict_columns (left words) net

pub without_nodes : (words : List ℕ) (net : Net) → (without words net).nodes ≡ net.nodes
unfolding without
without_nodes words net = restrict_nodes (left words) net

pub without_admitted : {e : ℕ} {net : Net} → Admitted e net → (words : List ℕ) → Admitted e (without words net)
unfolding without
without_admitted ok words = restrict_admitted ok (left words)

-- an empty map and a fresh one close nothing
pub without_none : (net : Net) → without [] net ≡ net
unfolding without left
without_none net = restrict_all (left []) net (λ i. ap not (short_open [] i (omega arith)))

pub without_fresh : (net : Net) → without (replicate 16 0) net ≡ net
unfolding without left
without_fresh net = restrict_all (left (replicate 16 0)) net (λ i. ap not (fresh_open i))

-- what the map leaves and what it closes below m are all arcs
pub left_count : (words : List ℕ) (net : Net) {m : ℕ} → m ≡ length net.arcs → length (without words net).arcs + closed_roads words m ≡ m
unfolding without restrict left closed_roads
left_count words net {m} e =
    let all = keep_others (shut words) (numbers 0 m) in
    let places = ap length (pick_places (left words) (0, 0) net.arcs) ∙ length-map (keep (left words) (numbers 0 (length net.arcs))) (λ j. get_or net.arcs j (0, 0)) in
    let here = ap (λ k. length (keep (left words) (numbers 0 k))) (sym e) in
    omega (arith, all, places, here, length_numbers 0 m)

-- ---- restricted again: by a test h of the old indices
module _ {e : ℕ} {net : Net} (ok : Admitted e net) (f : ℕ → Bool) where
  restrict_restrict : (g h : ℕ → Bool) → ((k : ℕ) → g k ≡ h (old_place f (length net.arcs) k)) → restrict g (restrict f net) ≡ restrict (λ j. f j && h j) net
  unfolding restrict
  restrict_restrict g h same = λ k. record { nodes = net.nodes; arcs = pick_pick f (0, 0) net.arcs g h same k; columns = each k }
    where
      each : map (pick g 0) (map (pick f 0) net.columns) ≡ map (pick (λ j. f j && h j) 0) net.columns
      each = map-map (pick g 0) (pick f 0) net.columns ∙ map_same net.columns (λ c m. pick_pick f 0 c g h (λ k. same k ∙ ap (λ n. h (old_place f n k)) (sym (ok.full c m))))

  common_restrict : common (restrict f net) ≡ restrict (λ i. f i && open_everywhere net i) net
  unfolding common open_everywhere restrict
  common_restrict = restrict_restrict (open_everywhere (restrict f net)) (open_everywhere net) (λ k. ap (λ l. not (elem mark l)) (map-map (λ (c : List ℕ). get_or c k 0) (pick f 0) net.columns ∙ map_same net.columns (λ c m. picked_at f 0 c k ∙ ap (λ n. get_or c (old_place f n k) 0) (ok.full c m))))

  open_restrict : (u : ℕ) → 1 ≤ u → u ≤ length net.columns → restrict (open_in (restrict f net) u) (restrict f net) ≡ restrict (λ i. f i && open_in net u i) net
  unfolding open_in
  open_restrict u lo hi =
      restrict_restrict (open_in (restrict f net) u) (open_in net u)
      (λ k. ap (λ c. not (eqb c mark)) (ap (λ l. get_or l k 0) (costs_restrict f net u) ∙ picked_at f 0 (cost_column net u) k ∙ ap (λ n. get_or (cost_column net u) (old_place f n k) 0) (costs_long ok u lo hi)))

-- the arcs that are left and open in every column, and those that are left and open in column u
module _ {e : ℕ} {net : Net} (ok : Admitted e net) (words : List ℕ) where
  pub common_without : common (without words net) ≡ restrict (λ i. left words i && open_everywhere net i) net
  unfolding without
  common_without = common_restrict ok (left words)

  pub open_without : (u : ℕ) → 1 ≤ u → u ≤ length net.columns → restrict (open_in (without words net) u) (without words net) ≡ restrict (λ i. left words i && open_in net u i) net
  unfolding without
  open_without u lo hi = open_restrict ok (left words) u lo hi
