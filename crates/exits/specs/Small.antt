-- Labels to which a weight can be added. Assumes nothing.
use Rattle.std.specs.Prelude.{ℕ, ◌≤◌, ◌<◌, ◌≡◌, List, length, get_or}
use Rattle.labels.specs.Labels.{far}

-- 199 arcs of the most that an arc may weigh
abbrev pub longest : ℕ
longest = 53418655545

-- labels that are the mark, or so small that a weight can be added
pub record Small (k : ℕ) (ls : List ℕ) : Type 0 where
  pub long : length ls ≡ k
  pub low : (v : ℕ) → get_or ls v 0 < far → get_or ls v 0 ≤ longest
