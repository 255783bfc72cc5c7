-- Regret against bests that are given: Robust searches the network of the arcs that are open in every column, against the bests of the
-- whole network (REFERENCE, sections 1.7 and 5). Assumes nothing.
use Prim.Native.Nat.{ℕ, suc, ◌-◌, ◌≤◌}
use native.Mathlib.Omega.{arith}
use mathlib.Core.Path.{◌≡◌, sym, ◌∙◌, ap, ap₂}
use mathlib.Core.List.{map}
use lib.Dec.{eqb}
use lib.ListN.{length, get_or}
use Rattle.terms.specs.Lists.{◌∈◌, largest, index, numbers}
use Rattle.terms.specs.Network.{Net, Admitted, column, common, restrict}
use Rattle.terms.specs.Paths.{Route, OpenPath, cost}
use Rattle.terms.specs.Ranking.{ranked}
use Rattle.terms.specs.Regret.{best, label, deviation, deviations, figure, worst, bests, over, figure_over, worst_over}
use Rattle.terms.specs.Robust.{robust, robust_over}
use Rattle.terms.proofs.ListLaws.{map_numbers, get_or_map_numbers}
use Rattle.terms.proofs.PathLaws.{column_within, path_listed}
use Rattle.terms.proofs.RankingLaws.{ranked_path}
use Rattle.terms.proofs.CommonLaws.{common_columns, common_path, path_common, common_cost}
use Rattle.terms.proofs.RegretLaws.{label_reached}
use Rattle.terms.proofs.RobustLaws.{answer_same}

-- the bests are the labels of the start
pub bests_label : (net : Net) (s t u : ℕ) → 1 ≤ u → u ≤ length net.columns → get_or (bests net s t) (u - 1) 0 ≡ label net.nodes (column net u) t s
unfolding bests
bests_label net s t u lo hi =
    get_or_map_numbers (λ (v : ℕ). label net.nodes (column net v) t s) 1 (length net.columns) (u - 1) 0 (omega arith)
    ∙ ap (λ (v : ℕ). label net.nodes (column net v) t s) (omega arith)

module _ {e : ℕ} {net : Net} (ok : Admitted e net) (s t : ℕ) (s_lo : 1 ≤ s) (s_hi : s ≤ net.nodes) where
  -- where a path is open in every column, the bests are best(u)
  pub bests_at : {p : Route} → OpenPath net s t p → (u : ℕ) → 1 ≤ u → u ≤ length net.columns → get_or (bests net s t) (u - 1) 0 ≡ best net.nodes (column net u) s t
  bests_at q u lo hi =
      bests_label net s t u lo hi ∙ label_reached net.nodes (column net u) s t (path_listed net.nodes (column_within ok u) s_lo s_hi (q.in_column u lo hi))

  -- and what it costs beyond them, over the arcs that are open in every column, are its deviations, the most its figure, the column of it its worst
  pub over_deviation : {p : Route} → OpenPath net s t p → (u : ℕ) → 1 ≤ u → u ≤ length net.columns
      → deviation net s t p u ≡ cost (column (common net) u) p - get_or (bests net s t) (u - 1) 0
  unfolding deviation
  over_deviation q u lo hi = ap₂ (λ x y. x - y) (sym (common_cost ok u (path_common ok u lo hi q))) (sym (bests_at q u lo hi))

  over_deviations : {p : Route} → OpenPath net s t p → deviations net s t p ≡ over (common net) (bests net s t) p
  unfolding deviations over
  over_deviations {p} q =
      map_numbers (deviation net s t p) (λ u. cost (column (common net) u) p - get_or (bests net s t) (u - 1) 0) 1 (length net.columns) (λ u lo hi. over_deviation q u lo (omega arith))
      ∙ ap (λ k. map (λ u. cost (column (common net) u) p - get_or (bests net s t) (u - 1) 0) (numbers 1 k)) (sym (common_columns net))

  pub over_figure : {p : Route} → OpenPath net s t p → figure net s t p ≡ figure_over (common net) (bests net s t) p
  unfolding figure figure_over
  over_figure q = ap largest (over_deviations q)

  pub over_worst : {p : Route} → OpenPath net s t p → worst net s t p ≡ worst_over (common net) (bests net s t) p
  unfolding worst worst_over
  over_worst q = ap₂ (λ f l. suc (index (eqb f) l)) (over_figure q) (over_deviations q)

  -- so Robust is a search over the paths of that network, against the bests
  pub robust_common : (r K : ℕ) → 1 ≤ r → r ≤ length net.columns → 1 ≤ K → robust net r s t K ≡ robust_over (common net) (bests net s t) r s t K
  unfolding robust robust_over common restrict
  robust_common r K lo hi K-lo =
      answer_same (ranked net.nodes (column (common net) r) s t) (λ p m. over_deviation (opens m) r lo hi) (λ p m. over_figure (opens m)) (λ p m. over_worst (opens m)) K K-lo
    where
      opens : {p : Route} → p ∈ ranked net.nodes (column (common net) r) s t → OpenPath net s t p
      opens m = common_path ok r (ranked_path net.nodes (column (common net) r) s t m)
