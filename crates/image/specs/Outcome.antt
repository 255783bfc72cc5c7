-- What a call comes to: its values, or one numbered refusal; and what that leaves in a lent slice. Assumes nothing.
use Rattle.std.specs.Prelude.{ℕ, Bool, true, false, List, ◌++◌, length, drop}

-- the row of the refusal table that applies, with its place, or that none does
pub data Fault : Type 0 where
  sound : Fault
  fault : ℕ → ℕ → Fault

-- a row applies if its test holds: number, place
unfoldable pub row : ℕ → ℕ → Bool → Fault
row number place true = fault number place
row number place false = sound

infixr 20 ◌then◌
-- the first row that applies is given: the rows of the left side stand before those of the right
unfoldable pub ◌then◌ : Fault → Fault → Fault
sound then f = f
fault number place then f = fault number place

-- the values that a call gives, or the refusal's number and place
pub data Outcome : Type 0 where
  gives : List ℕ → Outcome
  refuses : ℕ → ℕ → Outcome

unfoldable pub outcome : Fault → List ℕ → Outcome
outcome sound values = gives values
outcome (fault number place) values = refuses number place

-- a lent slice after the call: a result is written over its beginning, and a refusal changes nothing
unfoldable pub after : Fault → List ℕ → List ℕ → List ℕ
after sound new old = new ++ drop (length new) old
after (fault number place) new old = old
