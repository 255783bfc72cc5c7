-- Labels in 64 bits, as the label loop gives them, and in the 32 bits that Label writes. Assumes nothing.
use Rattle.std.specs.Prelude.{ℕ, ◌≤◌, ◌≡◌, cond, eqb}
use Rattle.terms.specs.Network.{mark}
use Rattle.labels.specs.Labels.{far}

-- a label with the mark of REFERENCE, section 4.2, in the place of far
unfoldable pub narrowed : ℕ → ℕ
narrowed l = cond (eqb l far) mark l

-- a label that has 32 bits so
pub data Narrow (l : ℕ) : Type 0 where
  is_far : l ≡ far → Narrow l
  is_small : l ≤ 199000000 → Narrow l
