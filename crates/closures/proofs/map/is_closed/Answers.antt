-- `map::is_closed`: the bit is a digit of its word, and a map closes nothing beyond its end. Assumes nothing.
use mathlib.Core.Path.{◌≡◌, sym, ◌∙◌}
use Prim.Native.Nat.{◌/◌}
use mathlib.Core.Logic.{⊎_elim}
use Rattle.std.proofs.Common.{rules, length, false}
use Rattle.terms.proofs.ListLaws.{le_or_lt}
use Rattle.closures.specs.Map.{digit, shut}
use Rattle.closures.proofs.MapLaws.{short_open}
use Rattle.closures.proofs.map.is_closed.Goals as goal

pub returns : goal.returns
unfolding shut digit
returns c = ⊎_elim
    (λ h. let none : c.is_some_and.result ≡ false = search rules in none ∙ sym (short_open c.args.words.now c.args.i h))
    (λ h. search rules)
    (le_or_lt (length c.args.words.now) (c.args.i / 64))
