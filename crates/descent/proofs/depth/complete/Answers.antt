-- `depth::complete`: the route replaces the best, or it does not. Assumes nothing.
use native.Mathlib.Omega.{arith}
use Rattle.descent.proofs.MatchLaws.{figure_low, replaces, stays}
use Rattle.descent.proofs.depth.complete.Goals as goal

pub returns-then-figure-held : goal.returns-then-figure-held
returns-then-figure-held c = λ fig z e m.
    let fits = c.requires.depth_fits in
    replaces fig c.args.partial.now.depth c.args.route.now c.figure_of-figure.ensures e (figure_low c.args.columns.now.bests.now (omega arith) c.requires.sums_low) c.if-figure-held.true fits.0 fits.1 fits.2 c.write_path.ensures m

pub returns : goal.returns
returns c = λ fig z e m. stays fig c.args.partial.now.depth c.args.route.now c.figure_of-figure.ensures e (figure_low c.args.columns.now.bests.now (omega arith) c.requires.sums_low) c.if-figure-held.false m
