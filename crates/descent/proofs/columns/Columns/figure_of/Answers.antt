-- `columns::Columns::figure_of`: the largest of the columns before. Assumes nothing.
use Prim.Native.Nat.{ℕ, ◌+◌, ◌-◌}
use native.Mathlib.Omega.{arith}
use mathlib.Core.Path.{◌≡◌, refl, ◌∙◌, ap₂}
use mathlib.Core.Logic.{⊎_elim}
use mathlib.Core.List.{[], ◌∷◌}
use lib.ListN.{length, length-append}
use Rattle.std.proofs.lemmas.Slice.Zip.{zip_turn, zip_end}
use Rattle.descent.proofs.RowLaws.{value_at}
use Rattle.terms.proofs.ListLaws.{le_or_lt}
use Rattle.terms.proofs.LargestLaws.{none_so_far, raised, kept, greatest}
use Rattle.descent.proofs.columns.Columns.figure_of.Goals as goal

pub loop-sum-init : goal.loop-sum-init
loop-sum-init c = (1, none_so_far _)

pub loop-sum-preserved : goal.loop-sum-preserved
loop-sum-preserved c =
    let k = length c.loop-sum.yielded in
    let t = zip_turn c.args.sums.now c.args.self.now.bests.now c.loop-sum.yielded _ _ c.next.new.self _ (cc) (cc) c.loop-sum.yielded_by _ c.in-Some.is c.next.ensures.steps in
    let is = c.saturating_sub.ensures ∙ ap₂ (λ (x y : ℕ). x - y) (t.2 0) (t.3 0) ∙ value_at c.args.sums.now c.args.self.now.bests.now k in
    rw (length-append c.loop-sum.yielded ((c.in-Some.field-0-0, c.in-Some.field-0-1) ∷ []))
    (⊎_elim (λ h. (c.loop-sum.invariant.0, kept (omega arith) c.loop-sum.invariant.1 is h (omega arith) refl)) (λ h. (k + 1, raised (omega arith) c.loop-sum.invariant.1 is h (omega arith) refl)) (le_or_lt c.saturating_sub.result c.loop-sum.figure))

pub returns : goal.returns
returns c =
    let many = zip_end c.args.sums.now c.args.self.now.bests.now c.loop-sum.yielded _ _ c.next.new.self _ (cc) (cc) c.loop-sum.yielded_by c.in-None.is c.next.ensures.steps in
    let all : length c.loop-sum.yielded ≡ length c.args.self.now.bests.now = omega (arith, many, c.args.self.now.fits.ground.rows.columns_to) in
    (greatest c.args.self.now.fits.ground.columns_from (rw all at c.loop-sum.invariant.1)).0
