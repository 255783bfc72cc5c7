-- docs/REFERENCE.md, section 6.2, rows 2, 3 and 6 to 9: what is asked of an edition, and of a network's numbers, arcs and costs. Assumes nothing.
use Rattle.std.specs.Prelude.{ℕ, zero, suc, Bool, not, ◌&&◌, ◌||◌, List, [], ◌∷◌, leb, eqb, get_or, drop}
use Rattle.terms.specs.Network.{mark, below}
use Rattle.image.specs.Outcome.{Fault, sound, row, ◌then◌}

-- row 2, for a call that takes the editions from 1 to `latest`
unfoldable pub edition_row : ℕ → ℕ → Fault
edition_row latest e = row 2 0 (not (leb 1 e && leb e latest))

-- n is 2 to 200, m 0 to 1,000, k 1 to 8
unfoldable pub in_range : ℕ → ℕ → ℕ → Bool
in_range n m k = leb 2 n && (leb n 200 && (leb m 1000 && (leb 1 k && leb k 8)))

unfoldable pub is_node : ℕ → ℕ → Bool
is_node n v = leb 1 v && leb v n

-- the first m arcs of a list of node numbers: a tail and a head each
unfoldable pub pairs : ℕ → List ℕ → List (ℕ × ℕ)
pairs zero l = []
pairs (suc m) l = (get_or l 0 0, get_or l 1 0) ∷ pairs m (drop 2 l)

-- rows 6, 7 and 8 for arc i, which stands after the arc `last`
unfoldable pub arc_fault : ℕ → ℕ × ℕ → ℕ → ℕ × ℕ → Fault
arc_fault n last i a =
    row 6 i (not (is_node n a.0 && is_node n a.1))
    then row 7 i (eqb a.0 a.1)
    then row 8 i (not (below last a))

-- arcs are looked at by index from 0, and each by rows 6, 7 and 8 in that order
unfoldable pub arcs_fault : ℕ → ℕ × ℕ → ℕ → List (ℕ × ℕ) → Fault
arcs_fault n last i [] = sound
arcs_fault n last i (a ∷ l) = arc_fault n last i a then arcs_fault n a (suc i) l

-- what may stand as a cost in an image of edition e: 0 to 1,000,000; in edition 2 also the mark of a closed arc
unfoldable pub is_cost : ℕ → ℕ → Bool
is_cost e c = leb c 1000000 || (eqb e 2 && eqb c mark)

-- row 9: the edition forbids a cost; the place is the index of the first such in the costs, from 0
unfoldable pub costs_fault : ℕ → ℕ → List ℕ → Fault
costs_fault e i [] = sound
costs_fault e i (c ∷ l) = row 9 i (not (is_cost e c)) then costs_fault e (suc i) l

-- rows 6 to 9 of a network's lists, in edition e; before the first arc stands 0→0, which is below every arc
unfoldable pub lists_fault : ℕ → ℕ → List (ℕ × ℕ) → List ℕ → Fault
lists_fault e n arcs costs = arcs_fault n (0, 0) 0 arcs then costs_fault e 0 costs
