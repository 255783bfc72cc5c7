-- docs/REFERENCE.md, section 2.1: numbers as bytes, unsigned, low byte first. Assumes nothing.
use Rattle.std.specs.Prelude.{ℕ, zero, suc, ◌+◌, ◌*◌, ◌/◌, ◌%◌, List, [], ◌∷◌, ◌++◌, take, drop}

-- the number that bytes stand for, low byte first
unfoldable pub number : List ℕ → ℕ
number [] = 0
number (b ∷ l) = b + 256 * number l

-- the w bytes of a number
unfoldable pub bytes : ℕ → ℕ → List ℕ
bytes zero x = []
bytes (suc w) x = x % 256 ∷ bytes w (x / 256)

-- the number of w bytes at an offset
unfoldable pub field : ℕ → List ℕ → ℕ → ℕ
field w b offset = number (take w (drop offset b))

-- the first c numbers of w bytes each
unfoldable pub decode : ℕ → ℕ → List ℕ → List ℕ
decode w zero b = []
decode w (suc c) b = number (take w b) ∷ decode w c (drop w b)

-- numbers written one after another, w bytes each
unfoldable pub encode : ℕ → List ℕ → List ℕ
encode w [] = []
encode w (x ∷ l) = bytes w x ++ encode w l
