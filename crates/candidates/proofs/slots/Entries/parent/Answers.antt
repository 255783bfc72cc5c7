-- `slots::Entries::parent` reads the entry's fourth word, which is one more than the parent's place. Assumes nothing.
use Prim.Native.Nat.{ℕ, ◌+◌, ◌-◌, ◌≤◌}
use native.Mathlib.Omega.{arith}
use mathlib.Core.Path.{◌≡◌}
use Rattle.std.proofs.Common.{Option, Some, None, SomeIff, MatchOption}
use Rattle.candidates.specs.Slots.{entry_at, decode}
use Rattle.candidates.proofs.slots.Entries.parent.Goals as goal

-- one less, where the word is not 0
one_less : (r : Option ℕ) (word parent : ℕ) → SomeIff r (1 ≤ word) (word - 1) → word ≡ parent → MatchOption r (parent ≡ 0) (λ x. parent ≡ x + 1)
one_less None word parent h e = omega (arith, h)
one_less (Some x) word parent h e = omega (arith, h)

pub returns : goal.returns
unfolding entry_at decode
returns c = one_less c.checked_sub.result _ _ c.checked_sub.ensures c.word.ensures
