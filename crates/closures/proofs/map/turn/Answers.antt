-- `map::turn`: a bit that is set is taken away, and one that is not is added. Assumes nothing.
use Prim.Native.Nat.{◌/◌, ◌<◌}
use native.Mathlib.Omega.{arith}
use mathlib.Core.Path.{sym, ◌∙◌}
use lib.ListN.{length, get_or}
use mir.Syntax.{w64}
use mir.Val.{Fits}
use Rattle.closures.proofs.MapLaws.{turned_off, turned_on, unit_in, unit_more}
use borrow.Author.Rules.{rules}
use Rattle.closures.proofs.map.turn.Goals as goal

pub returns-then-is_closed : goal.returns-then-is_closed
returns-then-is_closed c = turned_off c.args.words c.args.i (sym c.is_closed.ensures ∙ c.if-is_closed.true)

pub returns-else-is_closed : goal.returns-else-is_closed
returns-else-is_closed c = turned_on c.args.words c.args.i (sym c.is_closed.ensures ∙ c.if-is_closed.false)

pub overflow_sub-next : goal.overflow_sub-next
overflow_sub-next c =
    let inside : c.args.i / 64 < length c.args.words = let few : c.args.i / 64 < 16 = omega (arith, c.requires) in search rules in
    unit_in c.args.words c.args.i inside (sym c.is_closed.ensures ∙ c.if-is_closed.true)

pub overflow_add-next : goal.overflow_add-next
overflow_add-next c =
    let inside : c.args.i / 64 < length c.args.words = let few : c.args.i / 64 < 16 = omega (arith, c.requires) in search rules in
    let word_fits : Fits w64 (get_or c.args.words (c.args.i / 64) 0) = search rules in
    record { fits = unit_more c.args.words c.args.i inside (sym c.is_closed.ensures ∙ c.if-is_closed.false) word_fits.fits }
