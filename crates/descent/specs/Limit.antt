-- docs/REFERENCE.md, section 4.11: the rule with a limit on the arcs tried. Assumes nothing.
use Rattle.std.specs.Prelude.{ℕ, zero, suc, cond, List, [], ◌∷◌, leb, eqb}
use Rattle.terms.specs.Network.{Net}
use Rattle.terms.specs.Paths.{exits}
use Rattle.terms.specs.Regret.{figure}
use Rattle.descent.specs.Rule.{each, drawn, State, complete, one_more, dropped, laid, fresh_state}

-- a run goes on, or is cut before the arc that would be one too many
pub data Run : Type 0 where
  going : State → Run
  cut : Run

-- what goes on from there, if it was not cut
unfoldable pub then_on : (State → Run) → Run → Run
then_on f (going z) = f z
then_on f cut = cut

-- one arc, unless as many as the limit have been tried
unfoldable pub try_within : ℕ → Net → ℕ → ℕ → List ℕ → ℕ → ℕ → (State → Run) → State → Run
try_within limit net s t seen v h deeper z =
    let on = deeper (one_more z) in
    cond (leb limit z.tried) cut (cond (dropped net s t (laid seen v) v h z.found) (going (one_more z)) on)

unfoldable pub descend_within : ℕ → ℕ → Net → ℕ → ℕ → List ℕ → ℕ → State → Run
descend_within limit zero net s t seen v z = going z
descend_within limit (suc f) net s t seen v z =
    let onward = each (λ h. then_on (try_within limit net s t seen v h (descend_within limit f net s t (v ∷ seen) h))) (exits (drawn net) (v ∷ seen) v) (going z) in
    cond (eqb v t) (going (complete (figure net s t) (laid seen v) z)) onward

unfoldable pub search_within : ℕ → Net → ℕ → ℕ → Run
search_within limit net s t = descend_within limit net.nodes net s t [] s fresh_state

-- a state reached without a limit, held against it: cut if it has tried more arcs
unfoldable pub within : ℕ → State → Run
within limit z = cond (leb z.tried limit) (going z) cut
