-- Shortest, row by row, and the path that it writes. Assumes nothing.
use Prim.Native.Nat.{ℕ, ◌+◌, ◌≤◌}
use native.Mathlib.Omega.{arith}
use mathlib.Core.Path.{◌≡◌, refl, sym, ◌∙◌, ap, ap₂}
use mathlib.Core.List.Memᴰ
use mathlib.Core.List.{List, [], ◌∷◌, ◌++◌}
use lib.Seq.{length-take-le}
use lib.ListN.{length, get_or, take, drop}
use borrow.Author.Tests.{eq-eqb, ne_eqb}
use Rattle.terms.specs.Lists.{◌∈◌}
use Rattle.terms.specs.Network.{Graph, Admitted, column}
use Rattle.terms.specs.Paths.{Route, Path, cost, paths}
use Rattle.terms.specs.Ranking.{ranked}
use Rattle.terms.proofs.ListLaws.{mem_length}
use Rattle.terms.proofs.PathLaws.{Within, column_within, path_listed, listed_path}
use Rattle.image.specs.Outcome.{sound, fault, row, after}
use Rattle.image.specs.Layout.{edition, net_of}
use Rattle.image.specs.Calls.{image_fault}
use Rattle.image.proofs.OutcomeLaws.{then_sound, after_sound}
use Rattle.branching.specs.Branches.{everything, First, In}
use Rattle.branching.proofs.AllLaws.{first_ranked, cost_start}
use Rattle.branching.proofs.BranchLaws.{in_everything}
use Rattle.image.proofs.NetworkLaws.{accepted_network}
use Rattle.outcomes.specs.Calls.{no_path_row, shortest_rows, path_row, shortest_of, shortest_values}
use Rattle.loading.specs.Accepted.{InColumn, Ends}
use Rattle.outcomes.proofs.CostLaws.{column_cost_le}
use Rattle.outcomes.proofs.RowLaws.{SearchSound, search_sound, roomy}

-- what rows that pass say
pub record ShortestSound (b : List ℕ) (u s t room : ℕ) : Type 0 where
  pub search : SearchSound b u s t
  pub room_for : (net_of b).nodes ≤ room

pub shortest_sound : (b : List ℕ) (u s t room : ℕ) → shortest_rows b u s t room ≡ sound → ShortestSound b u s t room
unfolding shortest_rows
shortest_sound b u s t room e = let f = then_sound _ _ e in record { search = search_sound b u s t f.0; room_for = roomy _ _ f.1 }

-- ---- row 15, and the path
no_members : (l : List Route) → ((p : Route) → p ∈ l → ⊥) → length l ≡ 0
no_members [] none = refl
no_members (p ∷ l) none = absurd (none p (Memᴰ.head refl))

head_is : (l : List Route) (p : Route) → take 1 l ≡ p ∷ [] → get_or l 0 [] ≡ p
head_is [] p e = let z : ◌≡◌ {A = ℕ} 0 1 = ap length e in absurd (omega arith)
head_is (q ∷ l) p e = cc

-- row 15
module _ (n : ℕ) {g : Graph} {s t : ℕ} where
  pub row_none : ((p : Route) → Path g s t p → ⊥) → no_path_row n g s t ≡ fault 15 0
  unfolding no_path_row row
  row_none none =
      let empty : length (paths n g s t) ≡ 0 = no_members _ (λ p o. none p (listed_path n o)) in
      rw (eq-eqb _ 0 empty)

  pub row_some : Within n g → 1 ≤ s → s ≤ n → {p : Route} → Path g s t p → no_path_row n g s t ≡ sound
  unfolding no_path_row row
  row_some within lo hi h =
      let one = mem_length (path_listed n within lo hi h) in
      rw (ne_eqb (length (paths n g s t)) 0 (λ (e : length (paths n g s t) ≡ 0). omega arith))

module _ {b : List ℕ} {u s t : ℕ} (accepted : image_fault b ≡ sound) (c : InColumn b u) (ends : Ends (net_of b).nodes s t) where
  net : Admitted (edition b) (net_of b)
  net = accepted_network b accepted

  pub path_none : ((p : Route) → In (column (net_of b) u) s t (everything s) p → ⊥) → path_row b u s t ≡ fault 15 0
  unfolding path_row
  path_none none = row_none (net_of b).nodes (λ p h. none p (in_everything h))

  pub some_path : {p : Route} → Path (column (net_of b) u) s t p → path_row b u s t ≡ sound
  unfolding path_row
  some_path h = row_some (net_of b).nodes (column_within net u) ends.start_in.from ends.start_in.upto h

  module _ {p : Route} (f : First (column (net_of b) u) s t (everything s) p) where
    pub path_some : path_row b u s t ≡ sound
    path_some = some_path f.member.path

    pub path_is : shortest_of b u s t ≡ p
    unfolding shortest_of
    path_is = head_is (ranked (net_of b).nodes (column (net_of b) u) s t) p (first_ranked (net_of b).nodes (column_within net u) ends.start_in.from ends.start_in.upto f)

    pub path_cost : cost (column (net_of b) u) p ≤ 199000000
    path_cost = column_cost_le net c.from c.upto f.member.path

    -- its first len places hold it, and what lies behind the goal's own cost is its cost
    module _ (route : List ℕ) (rest : ℕ) {len : ℕ} (laid : p ≡ take len route) (upto : len ≤ length route) (tail : cost (column (net_of b) u) p ≡ cost (column (net_of b) u) (s ∷ []) + rest) where
      pub rest_is : rest ≡ cost (column (net_of b) u) p
      rest_is = omega (arith, tail, cost_start (column (net_of b) u) s)

      length_is : length (shortest_of b u s t) ≡ len
      length_is = ap length (path_is ∙ laid) ∙ length-take-le len route upto

      pub values_are : len ∷ rest ∷ [] ≡ shortest_values b u s t
      unfolding shortest_values
      values_are = ap₂ (λ (x y : ℕ). x ∷ y ∷ []) (sym length_is) (rest_is ∙ ap (cost (column (net_of b) u)) (sym path_is))

      pub written_is : (old : List ℕ) → take len route ++ drop len old ≡ after (path_row b u s t) (shortest_of b u s t) old
      written_is old = ap₂ (λ (l : List ℕ) (i : ℕ). l ++ drop i old) (sym (path_is ∙ laid)) (sym length_is) ∙ sym (after_sound _ _ path_some)
