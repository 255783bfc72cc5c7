-- docs/REFERENCE.md, section 4.11: Search's rule, a search that holds only one partial route, and the arcs that it tries. Assumes nothing.
use Rattle.std.specs.Prelude.{ℕ, zero, suc, ◌+◌, ◌-◌, ◌≤◌, ◌<◌, ◌≡◌, Bool, true, false, not, ◌&&◌, ◌||◌, cond, leb, ltb, eqb, length}
use mathlib.Core.List.{List, [], ◌∷◌, map, reverse_aux}
use Rattle.terms.specs.Lists.{largest, numbers}
use Rattle.terms.specs.Network.{Graph, Net, linked, weight, column}
use Rattle.terms.specs.Paths.{Route, OpenPath, cost, exits, paths}
use Rattle.terms.specs.Ranking.{lex}
use Rattle.terms.specs.Regret.{best, label, figure}

-- ---- lists
-- does every element pass a test
unfoldable pub every {ℓ} : {A : Type ℓ} → (A → Bool) → List A → Bool
every f [] = true
every f (x ∷ l) = f x && every f l

-- z after a step for each element, in their order
unfoldable pub each {ℓ κ} : {A : Type ℓ} {Z : Type κ} → (A → Z → Z) → List A → Z → Z
each f [] z = z
each f (x ∷ l) z = each f l (f x z)

-- ---- what the search holds
-- all arcs of the network, open or not; what they cost stands in the columns, and is 0 here
unfoldable pub drawn : Net → Graph
drawn net = map (λ a. record { tail = a.0; head = a.1; weight = 0 }) net.arcs

-- the best so far: nothing yet, or a path and its figure
pub data Best : Type 0 where
  nothing : Best
  held : Route → ℕ → Best

-- the best so far, and the number of arcs tried
pub record State : Type 0 where
  pub found : Best
  pub tried : ℕ

-- a completed path replaces the best only if its figure is smaller, or if there is none yet
unfoldable pub better : (Route → ℕ) → Route → Best → Best
better fig p nothing = held p (fig p)
better fig p (held q f) = cond (ltb (fig p) f) (held p (fig p)) (held q f)

-- the same of a state, and one arc more
unfoldable pub complete : (Route → ℕ) → Route → State → State
complete fig p z = record { found = better fig p z.found; tried = z.tried }

unfoldable pub one_more : State → State
one_more z = record { found = z.found; tried = suc z.tried }

-- ---- before extending to a node: p is the partial route, v its last node, h the node
-- cost so far + arc + label of that node to the goal − best of the column
unfoldable pub ahead : Net → ℕ → ℕ → Route → ℕ → ℕ → ℕ → ℕ
ahead net s t p v h u =
    cost (column net u) p + weight (column net u) v h + label net.nodes (column net u) t h - best net.nodes (column net u) s t

-- the largest, over the columns
unfoldable pub outlook : Net → ℕ → ℕ → Route → ℕ → ℕ → ℕ
outlook net s t p v h = largest (map (ahead net s t p v h) (numbers 1 (length net.columns)))

-- is it at least the best figure, once there is one
unfoldable pub hopeless : Best → ℕ → Bool
hopeless nothing x = false
hopeless (held p f) x = leb f x

-- not so if in some column the arc is closed or that node can't reach the goal
unfoldable pub passable_in : Net → ℕ → ℕ → ℕ → ℕ → Bool
passable_in net t v h u = linked (column net u) v h && leb 1 (length (paths net.nodes (column net u) h t))

unfoldable pub passable : Net → ℕ → ℕ → ℕ → Bool
passable net t v h = every (passable_in net t v h) (numbers 1 (length net.columns))

-- is it dropped
unfoldable pub dropped : Net → ℕ → ℕ → Route → ℕ → ℕ → Best → Bool
dropped net s t p v h z = not (passable net t v h) || hopeless z (outlook net s t p v h)

-- ---- the rule
-- the partial route: the nodes of seen, the last first, and then v
unfoldable pub laid : List ℕ → ℕ → Route
laid seen v = reverse_aux seen (v ∷ [])

-- an arc is tried each time its unused head comes up, dropped or not: from v to h, after which `deeper` is the search from h on
unfoldable pub try : Net → ℕ → ℕ → List ℕ → ℕ → ℕ → (State → State) → State → State
try net s t seen v h deeper z =
    let on = deeper (one_more z) in
    cond (dropped net s t (laid seen v) v h z.found) (one_more z) on

-- from the partial route that ends with v, at most f nodes deeper: it is extended by its unused heads, smallest node first, and never past the goal
unfoldable pub descend : ℕ → Net → ℕ → ℕ → List ℕ → ℕ → State → State
descend zero net s t seen v z = z
descend (suc f) net s t seen v z =
    let onward = each (λ h. try net s t seen v h (descend f net s t (v ∷ seen) h)) (exits (drawn net) (v ∷ seen) v) z in
    cond (eqb v t) (complete (figure net s t) (laid seen v) z) onward

-- the whole search
abbrev pub fresh_state : State
fresh_state = record { found = nothing; tried = 0 }

unfoldable pub search : Net → ℕ → ℕ → State
search net s t = descend net.nodes net s t [] s fresh_state

-- ---- what the answer is
-- p, of figure f, is the first in node order of all paths with the least figure, of the paths open in every column
pub record FirstLeast (net : Net) (s t : ℕ) (p : Route) (f : ℕ) : Type 0 where
  pub is_path : OpenPath net s t p
  pub own_figure : f ≡ figure net s t p
  pub least : (q : Route) → OpenPath net s t q → f ≤ figure net s t q
  pub earliest : (q : Route) → OpenPath net s t q → lex q p ≡ true → f < figure net s t q

-- nothing is found exactly if there is no such path
pub data Answers (net : Net) (s t : ℕ) : Best → Type 0 where
  none_open : ((p : Route) → OpenPath net s t p → ⊥) → Answers net s t nothing
  first_open : {p : Route} {f : ℕ} → FirstLeast net s t p f → Answers net s t (held p f)
