-- docs/REFERENCE.md, section 4.13: when an answer stands though an arc is closed. Assumes nothing.
use Rattle.std.specs.Prelude.{ℕ, Bool, true, false, not, ◌&&◌, ◌||◌, List, [], ◌∷◌, eqb, get_or}
use Rattle.terms.specs.Network.{Net}
use Rattle.terms.specs.Paths.{Route}
use Rattle.terms.specs.Regret.{bests}
use Rattle.closures.specs.Map.{without}

-- does a route go by the arc a: of the nodes p after v, and of a whole route
unfoldable pub touches_after : ℕ × ℕ → ℕ → List ℕ → Bool
touches_after a v [] = false
touches_after a v (h ∷ p) = (eqb v a.0 && eqb h a.1) || touches_after a h p

unfoldable pub touches : ℕ × ℕ → Route → Bool
touches a [] = false
touches a (v ∷ p) = touches_after a v p

-- are two lists of numbers equal
unfoldable pub alike : List ℕ → List ℕ → Bool
alike [] [] = true
alike [] (y ∷ l) = false
alike (x ∷ k) [] = false
alike (x ∷ k) (y ∷ l) = eqb x y && alike k l

-- "neither touches its route nor changes any column's best": arc i, which is open in the map `old` and closed in the map `new`;
-- a column in which no path is left has the mark in the place of its best, before and after
unfoldable pub unmoved : Net → ℕ → ℕ → List ℕ → List ℕ → ℕ → Route → Bool
unmoved net s t old new i p = not (touches (get_or net.arcs i (0, 0)) p) && alike (bests (without old net) s t) (bests (without new net) s t)
