-- docs/REFERENCE.md, sections 7.2 and 8.1: the bytes of network S's image, the sheet that is printed there, and the statement that the definition gives this sheet, which proofs/SampleLaws.antt proves. Assumes nothing.
use Rattle.std.specs.Prelude.{ℕ, ◌≡◌, length}
use mathlib.Core.List.{List, [], ◌∷◌}
use Rattle.sheet.specs.Sheet.{sheet}

-- the header: 1, n, m, k and 24, 44, 84, 0; the arcs 1→2, 1→3, 2→3, 2→4, 3→4; column 1: 2 5 1 6 2; column 2: 4 1 2 1 7
abbrev pub image_of_S : List ℕ
image_of_S =
    1 ∷ 0 ∷ 4 ∷ 0 ∷ 5 ∷ 0 ∷ 2 ∷ 0 ∷
    24 ∷ 0 ∷ 0 ∷ 0 ∷ 44 ∷ 0 ∷ 0 ∷ 0 ∷ 84 ∷ 0 ∷ 0 ∷ 0 ∷ 0 ∷ 0 ∷ 0 ∷ 0 ∷
    1 ∷ 0 ∷ 2 ∷ 0 ∷ 1 ∷ 0 ∷ 3 ∷ 0 ∷ 2 ∷ 0 ∷ 3 ∷ 0 ∷ 2 ∷ 0 ∷ 4 ∷ 0 ∷ 3 ∷ 0 ∷ 4 ∷ 0 ∷
    2 ∷ 0 ∷ 0 ∷ 0 ∷ 5 ∷ 0 ∷ 0 ∷ 0 ∷ 1 ∷ 0 ∷ 0 ∷ 0 ∷ 6 ∷ 0 ∷ 0 ∷ 0 ∷ 2 ∷ 0 ∷ 0 ∷ 0 ∷
    4 ∷ 0 ∷ 0 ∷ 0 ∷ 1 ∷ 0 ∷ 0 ∷ 0 ∷ 2 ∷ 0 ∷ 0 ∷ 0 ∷ 1 ∷ 0 ∷ 0 ∷ 0 ∷ 7 ∷ 0 ∷ 0 ∷ 0 ∷ []

-- "route 1 3 4", "regret 3 column 2", "ranked 2 settled"
abbrev pub sheet_of_S : List ℕ
sheet_of_S =
    114 ∷ 111 ∷ 117 ∷ 116 ∷ 101 ∷ 32 ∷ 49 ∷ 32 ∷ 51 ∷ 32 ∷ 52 ∷ 10 ∷
    114 ∷ 101 ∷ 103 ∷ 114 ∷ 101 ∷ 116 ∷ 32 ∷ 51 ∷ 32 ∷ 99 ∷ 111 ∷ 108 ∷ 117 ∷ 109 ∷ 110 ∷ 32 ∷ 50 ∷ 10 ∷
    114 ∷ 97 ∷ 110 ∷ 107 ∷ 101 ∷ 100 ∷ 32 ∷ 50 ∷ 32 ∷ 115 ∷ 101 ∷ 116 ∷ 116 ∷ 108 ∷ 101 ∷ 100 ∷ 10 ∷ []

-- the image has 84 bytes, and its sheet is the one above
pub record SampleSheet : Type 0 where
  pub bytes : length image_of_S ≡ 84
  pub printed : sheet image_of_S ≡ sheet_of_S
