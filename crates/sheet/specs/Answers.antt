-- What the sheet's answers say, and what Robust's answers, with the path that stands in a slice, print. Assumes nothing.
use Rattle.std.specs.Prelude.{ℕ, ◌≤◌, ◌<◌, Result, Ok, Err, List, [], ◌∷◌, ltb, length, get_or, take}
use Rattle.image.specs.Outcome.{Fault, row, Outcome, gives, refuses, outcome}
use Rattle.image.specs.Refusals.{number_of, place_of}
use Rattle.image.specs.declared.refusal.Refusal.{Refusal}
use Rattle.network_calls.specs.Answers.{Decision, answered}
use Rattle.sheet.specs.declared.printing.TooShort.{TooShort}
use Rattle.sheet.specs.Sheet.{answer_text, refused_line}
use Rattle.sheet.specs.Sheet as text

-- ---- Robust's answer
-- how many nodes the path has
abbrev pub nodes_of : Result Decision Refusal → ℕ
nodes_of (Ok d) = d.length
nodes_of (Err r) = 0

-- what is printed, with the path at the beginning of a slice
abbrev pub decided_text : Result Decision Refusal → List ℕ → List ℕ
decided_text (Ok d) path = answer_text (answered (take d.length path) d)
decided_text (Err r) path = refused_line (number_of r) (place_of r)

-- a path that a sheet has room for: at most 200 nodes, of at most three digits each
pub record Printable (path : List ℕ) (count : ℕ) : Type 0 where
  pub few : count ≤ 200
  pub within : count ≤ length path
  pub small : (i : ℕ) → i < count → get_or path i 0 < 1000

-- ---- the sheet: its length; or that the slice is too short, row 13 of the table
abbrev pub printed : Result ℕ TooShort → Outcome
printed (Ok bytes) = gives (bytes ∷ [])
printed (Err e) = refuses 13 0

-- the sheet needs 1,024 places
unfoldable pub sheet_fault : ℕ → Fault
sheet_fault room = row 13 0 (ltb room 1024)

unfoldable pub sheet_outcome : List ℕ → ℕ → Outcome
sheet_outcome b room = outcome (sheet_fault room) (length (text.sheet b) ∷ [])
