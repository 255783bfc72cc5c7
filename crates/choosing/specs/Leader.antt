-- docs/REFERENCE.md, section 5, while paths are counted: the earliest with the least figure, and the stopping rule so far. Assumes nothing.
use Rattle.std.specs.Prelude.{ℕ, ◌≤◌, ◌<◌, ◌≡◌, List, [], length, get_or}
use Rattle.terms.specs.Paths.{Route}
use Rattle.terms.specs.Robust.{least_figure}

-- ---- over a ranked list ps, with its paths' deviations, figures and worst columns
-- the path at a place is the earliest with the least figure among the first j, and has this figure and worst column
pub record Leads (fig wst : Route → ℕ) (ps : List Route) (j place figure worst : ℕ) : Type 0 where
  pub counted : place < j
  pub within : place < length ps
  pub figure_is : figure ≡ fig (get_or ps place [])
  pub worst_is : worst ≡ wst (get_or ps place [])
  pub least : figure ≡ least_figure fig ps j
  pub earlier_more : (i : ℕ) → i < place → figure < fig (get_or ps i [])

-- the same where no path may be counted yet: then the figure is above that of each path
pub record Leading (fig wst : Route → ℕ) (ps : List Route) (j place figure worst : ℕ) : Type 0 where
  pub above_all : j ≡ 0 → (i : ℕ) → i < length ps → fig (get_or ps i []) < figure
  pub leads : 1 ≤ j → Leads fig wst ps j place figure worst

-- the stopping rule holds at no number of paths below j
pub record Going (dev fig : Route → ℕ) (ps : List Route) (j : ℕ) : Type 0 where
  pub not_before : (i : ℕ) → 1 ≤ i → i < j → dev (get_or ps i []) < least_figure fig ps i
