-- What the search holds in arrays, against the rule's states and runs. Assumes nothing.
use Rattle.std.specs.Prelude.{ℕ, suc, ◌+◌, ◌-◌, ◌≤◌, ◌<◌, ◌≡◌, Bool, true, false, not, cond, List, ◌∷◌, reverse, length, get_or, take, Result, Ok, Err}
use Rattle.terms.specs.Lists.{◌∈◌, elem, keep}
use Rattle.terms.specs.Network.{Net, column}
use Rattle.terms.specs.Paths.{Route, cost}
use Rattle.terms.proofs.PathLaws.{unseen}
use Rattle.star.specs.Layout.{heads_of, outs_of}
use Rattle.labels.specs.Labels.{far}
use Rattle.descent.specs.Rule.{each, Best, nothing, held, State, laid, search}
use Rattle.descent.specs.Limit.{going, cut, then_on, try_within, descend_within}
use Rattle.descent.specs.Limit as rule
use Rattle.descent.specs.Rows.{Low}
use Rattle.descent.specs.Tables.{Tables, TablesIn}
use Rattle.descent.specs.declared.columns.Columns.{Columns}
use Rattle.descent.specs.declared.depth.Task.{Task}
use Rattle.descent.specs.declared.depth.Partial.{Partial}
use Rattle.descent.specs.declared.depth.Held.{Held}
use Rattle.descent.specs.declared.depth.Cut.{Cut}

-- ---- the partial route: the first d places of route, here with the last node first
abbrev pub trail : List ℕ → ℕ → List ℕ
trail route d = reverse (take d route)

-- flags that are true at the nodes of a list and false elsewhere
pub record Flagged (flags : List Bool) (q : List ℕ) : Type 0 where
  pub inside : (x : ℕ) → x ∈ q → get_or flags x false ≡ true
  pub outside : (x : ℕ) → elem x q ≡ false → get_or flags x false ≡ false

-- its nodes are flagged, and there is room for each node that is not on it
pub record Begun (places : ℕ) (route : List ℕ) (used : List Bool) (path sums : List ℕ) (d : ℕ) : Type 0 where
  pub some : 1 ≤ d
  pub room : d + length (unseen (places - 1) (trail route d)) < places
  pub route_long : places ≤ length route + 1
  pub path_long : places ≤ length path + 1
  pub used_long : length used ≡ places
  pub flagged : Flagged used (trail route d)
  pub sums_low : Low d sums

-- flags and the partial route are as before
pub record Kept (d : ℕ) (route : List ℕ) (used : List Bool) (route' : List ℕ) (used' : List Bool) : Type 0 where
  pub flags : used' ≡ used
  pub nodes : take d route' ≡ take d route

-- ---- the best so far and the count
pub data Holds (path : List ℕ) (len figure : ℕ) : Best → Type 0 where
  none_held : len ≡ 0 → figure ≡ far → Holds path len figure nothing
  one_held : {p : Route} {f : ℕ} → 1 ≤ len → len ≤ length path → p ≡ take len path → figure ≡ f → f < far → Holds path len figure (held p f)

pub record Matches (path : List ℕ) (h : Held) (z : State) : Type 0 where
  pub tried_is : h.tried ≡ z.tried
  pub found_is : Holds path h.length h.figure z.found

-- a run of the rule, and the code's
pub data Ends (path : List ℕ) : rule.Run → Result Held Cut → Type 0 where
  goes : {h : Held} {z : State} → Matches path h z → Ends path (going z) (Ok h)
  stopped : {e : Cut} → Ends path cut (Err e)

-- ---- what is given: a network in the tables, the rule's partial route, which ends with v, and its state
pub record Given (net : Net) (s t : ℕ) (seen : List ℕ) (z : State) (hs outs costs labels bests : List ℕ) (places goal v d : ℕ) (route path sums : List ℕ) (h : Held) : Type 0 where
  pub tables : Tables net s t hs outs costs labels bests places
  pub goal_is : goal ≡ t
  pub nodes_are : trail route d ≡ v ∷ seen
  pub sums_are : (u : ℕ) → u < length bests → get_or sums u 0 ≡ cost (column net (suc u)) (laid seen v)
  pub matches : Matches path h z

-- the heads of the arcs, and where the arcs out of each node begin
abbrev pub heads_in : Columns → List ℕ
heads_in c = heads_of c.arcs c.star.now

abbrev pub outs_in : Columns → List ℕ
outs_in c = outs_of c.places c.arcs c.star.now

-- the columns say of the network what the rule asks of each
abbrev pub Say : Net → ℕ → ℕ → Columns → Type 0
Say net s t c = TablesIn net s t c.arcs c.places c.star.now c.costs.now c.labels.now c.bests.now

-- the same as given, with the columns, the task and the partial route that the code has
abbrev pub GivenIn : Net → ℕ → ℕ → List ℕ → State → Columns → Task → Partial → ℕ → List ℕ → List ℕ → Held → Type 0
GivenIn net s t seen z c task p v route path h =
    Given net s t seen z (heads_in c) (outs_in c) c.costs.now c.labels.now c.bests.now c.places task.goal v p.depth route path p.sums h

-- the rule at one arc from v to h, at fuel f: nothing is tried if h is on the route
unfoldable pub at_arc : ℕ → ℕ → Net → ℕ → ℕ → List ℕ → ℕ → ℕ → State → rule.Run
at_arc limit f net s t seen v h z =
    cond (elem h (v ∷ seen)) (going z) (try_within limit net s t seen v h (descend_within limit f net s t (v ∷ seen) h) z)

-- and at all arcs from v to the nodes of l, one after the other
unfoldable pub sweep : ℕ → ℕ → Net → ℕ → ℕ → List ℕ → ℕ → List ℕ → rule.Run → rule.Run
sweep limit f net s t seen v l r =
    each (λ h. then_on (try_within limit net s t seen v h (descend_within limit f net s t (v ∷ seen) h))) (keep (λ h. not (elem h (v ∷ seen))) l) r

-- ---- the whole search
-- no node is flagged yet, and there are places enough
pub record Fresh (places start : ℕ) (route : List ℕ) (used : List Bool) (path : List ℕ) : Type 0 where
  pub start_from : 1 ≤ start
  pub start_in : start < places
  pub route_long : places ≤ length route + 1
  pub path_long : places ≤ length path + 1
  pub used_long : length used ≡ places
  pub none_used : (x : ℕ) → get_or used x false ≡ false

-- the rule's own answer and count, which is at most the limit; or cut, and then the rule tries more than the limit
pub data Outcome (limit : ℕ) (net : Net) (s t : ℕ) (path : List ℕ) : Result Held Cut → Type 0 where
  whole : {h : Held} → Matches path h (search net s t) → (search net s t).tried ≤ limit → Outcome limit net s t path (Ok h)
  too_many : {e : Cut} → limit < (search net s t).tried → Outcome limit net s t path (Err e)
