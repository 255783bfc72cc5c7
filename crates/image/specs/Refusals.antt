-- docs/REFERENCE.md, section 6: the number and the place of each refusal. Assumes nothing.
use Rattle.std.specs.Prelude.{ℕ, Result, Ok, Err}
use Rattle.image.specs.declared.refusal.Refusal.{Refusal}
use Rattle.image.specs.declared.refusal.Refusal.TheVariants.{ImageTooShort, WrongEdition, SizeOutOfRange, WrongField, WrongLength, ArcOutOfRange, ArcToItself, ArcNotRising, CostTooLarge, WrongEnds, WrongColumn, WrongPathCount, SliceTooShort, NotAPath, NoPath, WrongRecordArc, WrongRecordColumn, TooManyArcs, WrongEventArc}
use Rattle.image.specs.Outcome.{Fault, sound, fault}

-- the number of a refusal; no refusal has 16
abbrev pub number_of : Refusal → ℕ
number_of ImageTooShort = 1
number_of WrongEdition = 2
number_of SizeOutOfRange = 3
number_of WrongField = 4
number_of WrongLength = 5
number_of (ArcOutOfRange arc) = 6
number_of (ArcToItself arc) = 7
number_of (ArcNotRising arc) = 8
number_of (CostTooLarge index) = 9
number_of WrongEnds = 10
number_of WrongColumn = 11
number_of WrongPathCount = 12
number_of SliceTooShort = 13
number_of (NotAPath position) = 14
number_of NoPath = 15
number_of (WrongRecordArc index) = 17
number_of (WrongRecordColumn index) = 18
number_of (TooManyArcs limit) = 19
number_of (WrongEventArc arc) = 20

-- its place, which is 0 unless the row names one
abbrev pub place_of : Refusal → ℕ
place_of ImageTooShort = 0
place_of WrongEdition = 0
place_of SizeOutOfRange = 0
place_of WrongField = 0
place_of WrongLength = 0
place_of (ArcOutOfRange arc) = arc
place_of (ArcToItself arc) = arc
place_of (ArcNotRising arc) = arc
place_of (CostTooLarge index) = index
place_of WrongEnds = 0
place_of WrongColumn = 0
place_of WrongPathCount = 0
place_of SliceTooShort = 0
place_of (NotAPath position) = position
place_of NoPath = 0
place_of (WrongRecordArc index) = index
place_of (WrongRecordColumn index) = index
place_of (TooManyArcs limit) = limit
place_of (WrongEventArc arc) = arc

-- what some rows come to: none applies, or the first that does
abbrev pub verdict : Result (Unit {0}) Refusal → Fault
verdict (Ok u) = sound
verdict (Err r) = fault (number_of r) (place_of r)
