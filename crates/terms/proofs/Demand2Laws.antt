-- Demand 2 holds of the first K of the ranked list with their costs, and of no other lists. Assumes nothing.
use Prim.Native.Nat.{ℕ, suc, ◌≤◌, ◌<◌}
use native.Mathlib.Omega.{arith}
use native.Mathlib.Nat.{eq-or-lt_of_le}
use mathlib.Core.Path.{◌≡◌, refl, sym, ◌∙◌, ap}
use mathlib.Core.Bool.{true}
use mathlib.Core.Logic.{◌⊎◌, inl, inr, ⊎_elim}
use mathlib.Core.List.{List, [], ◌∷◌, map}
use lib.ListN.{length, get_or, take, length-take}
use lib.Seq.{take_all, take-length, get_or-take}
use Rattle.terms.specs.Lists.{◌∈◌}
use Rattle.terms.specs.Network.{Graph}
use Rattle.terms.specs.Paths.{Route, Path, cost}
use Rattle.terms.specs.Ranking.{before, ranked}
use Rattle.terms.specs.Demand2.{Demand2}
use Rattle.terms.proofs.ListLaws.{le_or_lt, mem_place, take_mem}
use Rattle.terms.proofs.PathLaws.{Within}
use Rattle.terms.proofs.RankingLaws.{NoLater, Rising, none_left, first, before_trans, rising_at, rising_split, rising_prefix, rising_unique, ranked_rising, ranked_path, path_ranked}

-- a list whose places are in order rises
in_places : (g : Graph) (l : List Route) → ((i j : ℕ) → i < j → j < length l → before g (get_or l i []) (get_or l j []) ≡ true) → Rising g l
in_places g [] h = none_left
in_places g (p ∷ l) h = first above (in_places g l (λ i j a b. h (suc i) (suc j) (omega arith) (omega arith)))
  where
    above : (q : Route) → q ∈ l → before g p q ≡ true
    above q m = let i = mem_place (length l) l [] {x = q} (rw (take-length l) m) in rw i.3 (h 0 (suc i.0) (omega arith) (omega arith))

-- a column over nodes 1 to n, and a start among these
module _ (n : ℕ) (g : Graph) (s t : ℕ) (w : Within n g) (s_lo : 1 ≤ s) (s_hi : s ≤ n) (K : ℕ) where
  abbrev ps : List Route
  ps = ranked n g s t

  listed : {p : Route} → Path g s t p → p ∈ ps
  listed k = path_ranked n g s t w s_lo s_hi k

  rising : Rising g ps
  rising = ranked_rising n g s t

  in_order : (i j : ℕ) → i < j → j < length (take K ps) → before g (get_or (take K ps) i []) (get_or (take K ps) j []) ≡ true
  in_order i j h k =
      let upto = length-take K ps in
      rw (get_or-take K ps i [] (omega arith), get_or-take K ps j [] (omega arith)) (rising_at g i j rising h (omega arith))

  others_later : (q : Route) → Path g s t q → (q ∈ take K ps) ⊎ ((p : Route) → p ∈ take K ps → before g p q ≡ true)
  others_later q k = ⊎_elim (λ h. inl (rw (take_all K ps h) (listed k))) (λ h. ⊎_elim (λ m. inl m) (λ x. inr (λ p m. later h p m x)) (rising_split g K rising h (listed k))) (le_or_lt (length ps) K)
    where
      next : K < length ps → (p : Route) → p ∈ take K ps → before g p (get_or ps K []) ≡ true
      next h p m = let i = mem_place K ps [] m in rw i.3 (rising_at g i.0 K rising i.1 h)

      later : K < length ps → (p : Route) → p ∈ take K ps → NoLater g (get_or ps K []) q → before g p q ≡ true
      later h p m (inl e) = rw e (next h p m)
      later h p m (inr b) = before_trans g p (get_or ps K []) q (next h p m) b

  pub demand_2 : Demand2 g s t K (take K ps) (map (cost g) (take K ps))
  demand_2 = record {
    is_path = λ p m. ranked_path n g s t (take_mem K ps m);
    in_order = in_order;
    others_later = others_later;
    at_most = omega (arith, length-take K ps);
    all_if_fewer = λ h q k. rw (take_all K ps (omega (arith, length-take K ps))) (listed k);
    true_costs = refl;
  }

  -- the demand leaves no choice
  pub demand_2_only : {l : List Route} {cs : List ℕ} → Demand2 g s t K l cs → (l ≡ take K ps) × (cs ≡ map (cost g) (take K ps))
  demand_2_only {l} d = (l_is, d.true_costs ∙ ap (map (cost g)) l_is)
    where
      rises : Rising g l
      rises = in_places g l d.in_order

      inside : (p : Route) → p ∈ l → p ∈ ps
      inside p m = listed (d.is_path p m)

      whole : length l < K → l ≡ take K ps
      whole h =
          let e = rising_unique g rises rising inside (λ p m. d.all_if_fewer h p (ranked_path n g s t m)) in
          e ∙ sym (take_all K ps (omega (arith, ap length e)))

      l_is : l ≡ take K ps
      l_is = ⊎_elim (λ e. rising_prefix g rises rising inside (λ p m. d.others_later p (ranked_path n g s t m)) ∙ ap (λ (k : ℕ). take k ps) e) whole (eq-or-lt_of_le d.at_most)
