-- Demand 3 (REFERENCE, section 9.3) holds of the definition of Robust, over the paths that are open in every column. Assumes nothing.
use Prim.Native.Nat.{ℕ, ◌≤◌}
use native.Mathlib.Omega.{arith}
use mathlib.Core.Path.{◌≡◌, subst}
use mathlib.Core.Bool.{true}
use mathlib.Core.List.{List}
use lib.ListN.{length}
use Rattle.terms.specs.Lists.{◌∈◌}
use Rattle.terms.specs.Network.{Net, Admitted, column, common}
use Rattle.terms.specs.Paths.{Route, cost}
use Rattle.terms.specs.Ranking.{before, ranked}
use Rattle.terms.specs.Regret.{deviation}
use Rattle.terms.specs.Robust.{Answer, robust}
use Rattle.terms.specs.Demand3.{Needs, contest, Demand3}
use Rattle.terms.proofs.PathLaws.{Within, column_within}
use Rattle.terms.proofs.RankingLaws.{rising_same, before_same, before_cost, ranked_rising, ranked_path, path_ranked}
use Rattle.terms.proofs.CommonLaws.{common_admitted, common_nodes, common_path, path_common, common_cost}
use Rattle.terms.proofs.RegretLaws.{deviation_le_figure}
use Rattle.terms.proofs.DemandLaws as demands
use Rattle.terms.proofs.DemandLaws.{Ranks, demand, IsSettled}

-- an admitted network, a start among its nodes, and r one of its columns
module _ {e : ℕ} (net : Net) (r s t : ℕ) (ok : Admitted e net) (s_lo : 1 ≤ s) (s_hi : s ≤ net.nodes) (r-lo : 1 ≤ r) (r-hi : r ≤ length net.columns) where
  -- Robust's ranked list
  abbrev listing : List Route
  listing = ranked net.nodes (column (common net) r) s t

  within : Within net.nodes (column (common net) r)
  within = subst (λ n. Within n (column (common net) r)) (common_nodes net) (column_within (common_admitted ok) r)

  -- the list has exactly the paths that are open in every column, and rises; a later path has no smaller deviation in r, and no path's deviation
  -- in r is more than its figure
  pub ranks : Ranks (contest net r s t)
  unfolding deviation
  ranks = record {
    rising = rising_same (λ p q m n. before_same (column (common net) r) (column net r) p q (same m) (same n)) (ranked_rising net.nodes (column (common net) r) s t);
    lists = λ p q. path_ranked net.nodes (column (common net) r) s t within s_lo s_hi (path_common ok r r-lo r-hi q);
    listed = λ p m. common_path ok r (ranked_path net.nodes (column (common net) r) s t m);
    climbs = climbs;
    no_more = λ p m. deviation_le_figure net s t p r r-lo r-hi;
  }
    where
      same : {p : Route} → p ∈ listing → cost (column (common net) r) p ≡ cost (column net r) p
      same m = common_cost ok r (ranked_path net.nodes (column (common net) r) s t m)

      climbs : (p q : Route) → before (column net r) p q ≡ true → deviation net s t p r ≤ deviation net s t q r
      climbs p q b = omega (arith, before_cost (column net r) p q b)

  -- demand 3, if K is at least 1
  pub demand_3 : (K : ℕ) → 1 ≤ K → Demand3 net r s t K (robust net r s t K)
  unfolding robust
  demand_3 K K-lo = demand (contest net r s t) ranks K K-lo

  -- (b) settled exactly if the stopping rule needs at most K paths; the other two laws of this kind are in DemandLaws as they are
  pub settled_exactly : {K : ℕ} {a : Answer} → Demand3 net r s t K a → (IsSettled a → (j : ℕ) × Needs (contest net r s t) j × (j ≤ K)) × ((j : ℕ) → Needs (contest net r s t) j → j ≤ K → IsSettled a)
  settled_exactly d = demands.settled_exactly (λ p m. ranks.listed p m) d
