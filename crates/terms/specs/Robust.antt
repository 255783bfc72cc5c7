-- docs/REFERENCE.md, section 5: the stopping rule and Robust's answer. Assumes nothing.
use Rattle.std.specs.Prelude.{ℕ, ◌-◌, Bool, ◌||◌, cond, List, [], ◌∷◌, map, leb, eqb, length, get_or, take}
use Rattle.terms.specs.Lists.{least, index, smallest}
use Rattle.terms.specs.Network.{Net, column, common}
use Rattle.terms.specs.Paths.{Route, cost}
use Rattle.terms.specs.Ranking.{ranked}
use Rattle.terms.specs.Regret.{deviation, figure, worst, figure_over, worst_over}

-- ---- over a ranked list P1, P2, .. PN, with its paths' deviations in r and their figures
-- Bj: the least figure among the first j
unfoldable pub least_figure : (Route → ℕ) → List Route → ℕ → ℕ
least_figure fig ps j = least (map fig (take j ps))

-- does the stopping rule hold at j: j = N, or the deviation of P(j+1) in r is at least Bj
unfoldable pub enough : (Route → ℕ) → (Route → ℕ) → List Route → ℕ → Bool
enough dev fig ps j = eqb j (length ps) || leb (least_figure fig ps j) (dev (get_or ps j []))

-- J, the number of paths that the stopping rule needs: the smallest j at which it holds
unfoldable pub needed : (Route → ℕ) → (Route → ℕ) → List Route → ℕ
needed dev fig ps = smallest (enough dev fig ps) 1 (length ps - 1)

-- the earliest path with the least figure among those counted, the first j
unfoldable pub choice : (Route → ℕ) → List Route → ℕ → Route
choice fig ps j = get_or ps (index (λ p. eqb (fig p) (least_figure fig ps j)) ps) []

-- ---- the answer
pub data Answer : Type 0 where
  -- the path, its figure, its worst column, the count
  settled : Route → ℕ → ℕ → ℕ → Answer
  -- open: the same, and the floor
  left_open : Route → ℕ → ℕ → ℕ → ℕ → Answer
  -- N = 0, where row 15 applies
  no_path : Answer

-- settled with count J if J is at most K; else open with count K and a floor, the deviation of P(K+1) in r
unfoldable pub answer : (Route → ℕ) → (Route → ℕ) → (Route → ℕ) → List Route → ℕ → Answer
answer dev fig wst [] K = no_path
answer dev fig wst (p ∷ ps) K =
    let J = needed dev fig (p ∷ ps) in
    let at-J = choice fig (p ∷ ps) J in
    let at-K = choice fig (p ∷ ps) K in
    let closed = settled at-J (fig at-J) (wst at-J) J in
    let unsettled = left_open at-K (fig at-K) (wst at-K) K (dev (get_or (p ∷ ps) K [])) in
    cond (leb J K) closed unsettled

-- Robust in column r, from s to t, over at most K ranked paths: the list has the paths that are open in every column, while best(u)
-- is over all paths that are open in u
unfoldable pub robust : Net → ℕ → ℕ → ℕ → ℕ → Answer
robust net r s t K =
    answer (λ p. deviation net s t p r) (figure net s t) (worst net s t) (ranked net.nodes (column (common net) r) s t) K

-- the same over all paths of a network, against bests that are given: the deviation in r is what a path costs there beyond r's
unfoldable pub robust_over : Net → List ℕ → ℕ → ℕ → ℕ → ℕ → Answer
robust_over net bs r s t K =
    answer (λ p. cost (column net r) p - get_or bs (r - 1) 0) (figure_over net bs) (worst_over net bs) (ranked net.nodes (column net r) s t) K
