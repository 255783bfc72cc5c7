-- What the search among the exits of a node finds. Assumes nothing.
use Rattle.std.specs.Prelude.{ℕ, ◌+◌, ◌≤◌, ◌<◌, ◌≡◌, ◌&&◌, Bool, false, not, cond, List, ltb, get_or, Option, Some, None, IfSome, IfNone}
use Rattle.terms.specs.Network.{Graph}
use Rattle.labels.specs.Labels.{far}
use Rattle.exits.specs.Flags.{Fresh}
use Rattle.exits.specs.Walks.{Exit, Choice}
use Rattle.exits.specs.declared.stepping.Step.{Step}

-- not used, and not barred
pub record Unmarked (used barred : List Bool) (z : ℕ) : Type 0 where
  pub unused : get_or used z false ≡ false
  pub free : get_or barred z false ≡ false

-- not used
abbrev pub Unused : List Bool → ℕ → Type 0
Unused used z = get_or used z false ≡ false

-- weight and label of an arc of weight w to y, or the mark if y is used, barred or not reached
unfoldable pub via : List ℕ → List Bool → List Bool → ℕ → ℕ → ℕ
via ls used barred y w = cond (not (get_or used y false) && (not (get_or barred y false) && ltb (get_or ls y 0) far)) (w + get_or ls y 0) far

-- the same of the arc at index i
abbrev pub via_arc : List ℕ → List ℕ → List ℕ → List Bool → List Bool → ℕ → ℕ
via_arc hs ws ls used barred i = via ls used barred (get_or hs i 0) (get_or ws i 0)

-- r is the number x if that is less than `best`, and else there is none
pub record Below (x best : ℕ) (r : Option ℕ) : Type 0 where
  pub is : IfSome r (λ l. (x ≡ l) × (l < best))
  pub no_less : IfNone r (best ≤ x)
  pub at_most : x ≤ far

-- ---- over the arcs at the indices from a to below e, with a number for each
-- l, below the mark, is the least of the numbers, `place` the first that has it, and y the head there
pub record Best (number : ℕ → ℕ) (hs : List ℕ) (a e l y : ℕ) : Type 0 where
  pub place : ℕ
  pub lower : a ≤ place
  pub upper : place < e
  pub has : number place ≡ l
  pub below : l < far
  pub node : get_or hs place 0 ≡ y
  pub least : (j : ℕ) → a ≤ j → j < e → l ≤ number j
  pub earlier_more : (j : ℕ) → a ≤ j → j < place → l < number j

-- the best of them, or all are the mark
abbrev pub Scanned : (ℕ → ℕ) → List ℕ → ℕ → ℕ → Option Step → Type 0
Scanned number hs a e None = (j : ℕ) → a ≤ j → j < e → number j ≡ far
Scanned number hs a e (Some s) = Best number hs a e s.rest s.node

-- ---- of a node
-- the node that was found is a node that is not used
abbrev pub Usable : ℕ → List Bool → Option Step → Type 0
Usable k used r = IfSome r (λ s. Fresh k used s.node)

-- the choice among the exits of v, or there is none
abbrev pub Chosen : Graph → List ℕ → (ℕ → Type 0) → ℕ → Option Step → Type 0
Chosen g ls Open v None = (z : ℕ) → Exit g ls Open v z → ⊥
Chosen g ls Open v (Some s) = Choice g ls Open v s.rest s.node

-- an unused node whose label makes up `want` with the weight w
pub record Keeps (ls : List ℕ) (used : List Bool) (y w want : ℕ) : Type 0 where
  pub unused : get_or used y false ≡ false
  pub adds_up : w + get_or ls y 0 ≡ want
