-- docs/REFERENCE.md, section 7: the text that the program prints, as ASCII bytes. Assumes nothing.
use Rattle.std.specs.Prelude.{ℕ, List, [], ◌∷◌, ◌++◌}
use Rattle.terms.specs.Paths.{Route}
use Rattle.terms.specs.Robust.{Answer, settled, left_open, no_path}
use Rattle.image.specs.Outcome.{Fault, sound, fault}
use Rattle.image.specs.Layout.{net_of}
use Rattle.outcomes.specs.Calls.{robust_fault, robust_of}
use Rattle.sheet.specs.Text.{decimal}

-- ---- words: one space stands between two, and a newline ends each line
-- " "
abbrev pub space : List ℕ
space = 32 ∷ []

-- a newline
abbrev pub newline : List ℕ
newline = 10 ∷ []

-- "route"
abbrev pub route_word : List ℕ
route_word = 114 ∷ 111 ∷ 117 ∷ 116 ∷ 101 ∷ []

-- "regret "
abbrev pub regret_word : List ℕ
regret_word = 114 ∷ 101 ∷ 103 ∷ 114 ∷ 101 ∷ 116 ∷ 32 ∷ []

-- " column "
abbrev pub column_word : List ℕ
column_word = 32 ∷ 99 ∷ 111 ∷ 108 ∷ 117 ∷ 109 ∷ 110 ∷ 32 ∷ []

-- "ranked "
abbrev pub ranked_word : List ℕ
ranked_word = 114 ∷ 97 ∷ 110 ∷ 107 ∷ 101 ∷ 100 ∷ 32 ∷ []

-- " settled" and a newline
abbrev pub settled_word : List ℕ
settled_word = 32 ∷ 115 ∷ 101 ∷ 116 ∷ 116 ∷ 108 ∷ 101 ∷ 100 ∷ 10 ∷ []

-- " open floor "
abbrev pub floor_word : List ℕ
floor_word = 32 ∷ 111 ∷ 112 ∷ 101 ∷ 110 ∷ 32 ∷ 102 ∷ 108 ∷ 111 ∷ 111 ∷ 114 ∷ 32 ∷ []

-- "refused "
abbrev pub refused_word : List ℕ
refused_word = 114 ∷ 101 ∷ 102 ∷ 117 ∷ 115 ∷ 101 ∷ 100 ∷ 32 ∷ []

-- " at "
abbrev pub at_word : List ℕ
at_word = 32 ∷ 97 ∷ 116 ∷ 32 ∷ []

-- ---- lines
-- a line of two numbers with a word before each
unfoldable pub two_numbers : List ℕ → ℕ → List ℕ → ℕ → List ℕ
two_numbers first x second y = first ++ (decimal x ++ (second ++ (decimal y ++ newline)))

-- nodes, a space before each
unfoldable pub node_text : ℕ → List ℕ
node_text v = space ++ decimal v

unfoldable pub nodes_text : Route → List ℕ
nodes_text [] = []
nodes_text (v ∷ p) = node_text v ++ nodes_text p

-- "route 1 3 4"
unfoldable pub route_line : Route → List ℕ
route_line p = route_word ++ (nodes_text p ++ newline)

-- "regret 3 column 2": figure and worst column
unfoldable pub regret_line : ℕ → ℕ → List ℕ
regret_line f w = two_numbers regret_word f column_word w

-- "ranked 2 settled": count and state
unfoldable pub settled_line : ℕ → List ℕ
settled_line c = ranked_word ++ (decimal c ++ settled_word)

-- "ranked 48 open floor F"
unfoldable pub open_line : ℕ → ℕ → List ℕ
open_line c floor = two_numbers ranked_word c floor_word floor

-- "refused N at P": number and place
unfoldable pub refused_line : ℕ → ℕ → List ℕ
refused_line number place = two_numbers refused_word number at_word place

-- ---- the sheet
-- the lines that every answer begins with
unfoldable pub choice_lines : Route → ℕ → ℕ → List ℕ
choice_lines p f w = route_line p ++ regret_line f w

-- of Robust's answer; where there is no path, row 15 refuses
unfoldable pub answer_text : Answer → List ℕ
answer_text (settled p f w c) = choice_lines p f w ++ settled_line c
answer_text (left_open p f w c floor) = choice_lines p f w ++ open_line c floor
answer_text no_path = []

-- of the row that applies, or of the answer where none does
unfoldable pub sheet_of : Fault → Answer → List ℕ
sheet_of sound answer = answer_text answer
sheet_of (fault number place) answer = refused_line number place

-- the program runs Robust with column 1, start 1, goal n and K = 48, on slices that are long enough for every image: 200 nodes, and the workspace of 200 nodes
unfoldable pub program_fault : List ℕ → Fault
program_fault b = robust_fault b 1 1 (net_of b).nodes 48 200 13848

unfoldable pub program_answer : List ℕ → Answer
program_answer b = robust_of b 1 1 (net_of b).nodes 48

-- the sheet of an image
unfoldable pub sheet : List ℕ → List ℕ
sheet b = sheet_of (program_fault b) (program_answer b)
