-- docs/REFERENCE.md, section 4.11: what Search promises of every call that passes the checks, whatever the image, the numbers and the slice. Assumes nothing.
use Rattle.std.specs.Prelude.{ℕ, ◌≤◌, ◌<◌, ◌≡◌, List, length}
use Rattle.terms.specs.Paths.{Route, OpenPath}
use Rattle.terms.specs.Regret.{figure}
use Rattle.terms.specs.Robust.{settled}
use Rattle.image.specs.Outcome.{sound, fault}
use Rattle.image.specs.Layout.{net_of}
use Rattle.outcomes.specs.Calls.{robust_of}
use Rattle.descent.specs.Rule.{FirstLeast}
use Rattle.search_calls.specs.Calls.{entry_rows, search_of, search_fault, search_path}

pub record KeptSearch (b : List ℕ) (s t limit room : ℕ) : Type 0 where
  -- 15 comes exactly if no loopless path from start to goal is open in every column
  pub refused_none : entry_rows b s t room ≡ sound → search_fault b s t limit room ≡ fault 15 0 → (p : Route) → OpenPath (net_of b) s t p → ⊥
  pub none_refused : entry_rows b s t room ≡ sound → ((p : Route) → OpenPath (net_of b) s t p → ⊥) → search_fault b s t limit room ≡ fault 15 0
  -- if there is one, 19 comes exactly if the rule tries more arcs than the limit, and else the answer is given
  pub many_refused : entry_rows b s t room ≡ sound → (p : Route) → OpenPath (net_of b) s t p → limit < (search_of b s t).tried → search_fault b s t limit room ≡ fault 19 limit
  pub few_given : entry_rows b s t room ≡ sound → (p : Route) → OpenPath (net_of b) s t p → (search_of b s t).tried ≤ limit → search_fault b s t limit room ≡ sound
  -- and it is the first in node order of all paths, open in every column, with the least figure
  pub first_least : entry_rows b s t room ≡ sound → (p : Route) → OpenPath (net_of b) s t p → FirstLeast (net_of b) s t (search_path b s t) (figure (net_of b) s t (search_path b s t))
  -- a settled Robust on the same image, start and goal has an equal figure, whatever its column and K
  pub same_figure : entry_rows b s t room ≡ sound → (r K : ℕ) → 1 ≤ r → r ≤ length (net_of b).columns → 1 ≤ K
      → {q : Route} {f w n : ℕ} → robust_of b r s t K ≡ settled q f w n → f ≡ figure (net_of b) s t (search_path b s t)
