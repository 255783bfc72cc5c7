-- `columns::Columns::drops`: no column before u drops the node. Assumes nothing.
use native.Mathlib.Omega.{arith}
use mathlib.Core.Path.{sym, ◌∙◌}
use borrow.Author.Count.{below_more}
use Rattle.descent.specs.Rows.{in_column, in_none}
use Rattle.descent.proofs.StarLaws.{cost_in, label_in}
use Rattle.descent.proofs.columns.Columns.drops.Goals as goal

pub bounds-costs-u : goal.bounds-costs-u
bounds-costs-u c = cost_in c.args.self.now.fits c.loop-u.u c.args.i (omega arith) (omega arith)

pub bounds-labels-u : goal.bounds-labels-u
bounds-labels-u c = label_in c.args.self.now.fits c.loop-u.u c.args.h (omega arith) (omega arith)

pub drops_in-requires : goal.drops_in-requires
drops_in-requires c = (omega (arith, c.requires.2.low c.loop-u.u), c.args.self.now.fits.ground.rows.labels_low _)

pub returns-then-drops_in : goal.returns-then-drops_in
returns-then-drops_in c = in_column c.loop-u.u (omega arith) (sym c.drops_in.ensures ∙ c.if-drops_in.true)

pub loop-u-preserved : goal.loop-u-preserved
loop-u-preserved c = below_more _ _ c.loop-u.invariant (sym c.drops_in.ensures ∙ c.if-drops_in.false)

pub returns : goal.returns
returns c = in_none (λ u h. c.loop-u.invariant u (omega arith))
