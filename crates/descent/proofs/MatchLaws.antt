-- A completed path, in the arrays and in the rule. Assumes nothing.
use Prim.Native.Nat.{ℕ, ◌*◌, ◌-◌, ◌≤◌, ◌<◌}
use native.Mathlib.Omega.{arith}
use mathlib.Core.Path.{◌≡◌, refl, sym, ◌∙◌, ap}
use mathlib.Core.List.Memᴰ
use mathlib.Core.List.{List, ◌++◌, map}
use lib.ListN.{length, get_or, take, drop, length-append}
use lib.Seq.{length-take-le, take_at}
use borrow.Author.Tests.{lt-ltb, le-ltb}
use Rattle.terms.specs.Lists.{largest, numbers}
use Rattle.terms.specs.Paths.{Route}
use Rattle.descent.specs.Rule.{Best, State, better, complete}
use Rattle.terms.proofs.ListLaws.{largest_le}
use Rattle.descent.specs.Rows.{Low}
use Rattle.labels.specs.Labels.{far}
use Rattle.descent.specs.Depth.{Holds, none_held, one_held, Matches}
use Rattle.descent.specs.declared.depth.Held.{Held}

-- a figure over sums of at most 200 arcs is below the mark
pub figure_low : {d : ℕ} {sums : List ℕ} (bests : List ℕ) → d ≤ 200 → Low d sums → largest (map (λ u. get_or sums (u - 1) 0 - get_or bests (u - 1) 0) (numbers 1 (length bests))) < far
figure_low {d} {sums} bests few low = omega (arith, largest_le (4294967296 * d) (map value (numbers 1 (length bests))) (λ y m. let o = Memᴰ.of_map value (numbers 1 (length bests)) m in omega (arith, o.2, low.low (o.0 - 1))))
  where
    value : ℕ → ℕ
    value u = get_or sums (u - 1) 0 - get_or bests (u - 1) 0

module _ (fig : Route → ℕ) {path : List ℕ} {len figure : ℕ} (p : Route) (low : fig p < far) where
  -- it has a smaller figure than the best, or there was none
  holds_better : {path' : List ℕ} {d : ℕ} {b : Best} → fig p < figure → 1 ≤ d → d ≤ length path' → p ≡ take d path' → Holds path len figure b → Holds path' d (fig p) (better fig p b)
  unfolding better
  holds_better h some fits is (none_held _ _) = one_held some fits is refl low
  holds_better h some fits is (one_held {f} _ _ _ e _) = rw (lt-ltb (fig p) f (omega arith)) (one_held some fits is refl low)

  -- it has not
  holds_same : {b : Best} → figure ≤ fig p → Holds path len figure b → Holds path len figure (better fig p b)
  unfolding better
  holds_same h (none_held _ e) = absurd (omega arith)
  holds_same h (one_held {f} a b c e g) = rw (le-ltb (fig p) f (omega arith)) (one_held a b c e g)

module _ (fig : Route → ℕ) {path : List ℕ} {h : Held} {z : State} (p : Route) (low : fig p < far) (m : Matches path h z) where
  matches_better : {path' : List ℕ} {d : ℕ} → fig p < h.figure → 1 ≤ d → d ≤ length path' → p ≡ take d path' → Matches path' (record { length = d; figure = fig p; tried = h.tried }) (complete fig p z)
  unfolding complete
  matches_better l some fits is = record { tried_is = m.tried_is; found_is = holds_better fig p low l some fits is m.found_is }

  matches_same : h.figure ≤ fig p → Matches path h (complete fig p z)
  unfolding complete
  matches_same l = record { tried_is = m.tried_is; found_is = holds_same fig p low l m.found_is }

-- the same, as the code has it: the first d nodes of route are copied to path
module _ (fig : Route → ℕ) {path : List ℕ} {h : Held} {z : State} {figure top : ℕ} (d : ℕ) (route : List ℕ) (is : figure ≡ top) (e : fig (take d route) ≡ top) (low : top < far) where
  pub replaces : {path' : List ℕ} → figure < h.figure → 1 ≤ d → d ≤ length route → d ≤ length path → path' ≡ take d route ++ drop d path → Matches path h z
      → Matches path' (record { length = d; figure = figure; tried = h.tried }) (complete fig (take d route) z)
  replaces {path'} l some fits room copied m =
      let f : figure ≡ fig (take d route) = is ∙ sym e in
      rw f (matches_better fig (take d route) (omega arith) m (omega arith) some (omega (arith, ap length copied, length-append (take d route) (drop d path), length-take-le d route fits)) (sym (ap (take d) copied ∙ take_at (take d route) (drop d path) d (length-take-le d route fits))))

  pub stays : h.figure ≤ figure → Matches path h z → Matches path h (complete fig (take d route) z)
  stays l m = matches_same fig (take d route) (omega arith) m (omega arith)
