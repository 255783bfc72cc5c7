-- docs/REFERENCE.md, section 4.12: the map of closed arcs, and the network without them. Assumes nothing.
use Rattle.std.specs.Prelude.{ℕ, ◌+◌, ◌-◌, ◌/◌, ◌%◌, ◌^◌, Bool, not, cond, List, eqb, length, get_or, set}
use Rattle.terms.specs.Lists.{keep, numbers}
use Rattle.terms.specs.Network.{Net, restrict}

-- digit b of a word, the lowest being 0
unfoldable pub digit : ℕ → ℕ → ℕ
digit w b = w / 2 ^ b % 2

-- is arc i closed: "sixteen 64-bit words, arc 0 the lowest bit of the first"; a shorter map closes nothing beyond its end
unfoldable pub shut : List ℕ → ℕ → Bool
shut words i = eqb (digit (get_or words (i / 64) 0) (i % 64)) 1

-- the map with the bit of arc i turned over
unfoldable pub turned : List ℕ → ℕ → List ℕ
turned words i =
    let w = get_or words (i / 64) 0 in
    let unit = 2 ^ (i % 64) in
    set words (i / 64) (cond (shut words i) (w - unit) (w + unit))

-- does the map leave arc i open
unfoldable pub left : List ℕ → ℕ → Bool
left words i = not (shut words i)

-- "the image without the closed arcs"; bits from m on close nothing
unfoldable pub without : List ℕ → Net → Net
without words net = restrict (left words) net

-- "the number of closed roads shown is the number of ones in the map below bit m"
unfoldable pub closed_roads : List ℕ → ℕ → ℕ
closed_roads words m = length (keep (shut words) (numbers 0 m))
