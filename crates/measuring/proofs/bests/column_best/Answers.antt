-- `bests::column_best`: the start's label, or the least cost of a path in the column. Assumes nothing.
use native.Mathlib.Omega.{arith}
use mathlib.Core.Path.{sym, ◌∙◌, ap₂, subst}
use Rattle.terms.specs.Paths.{Path}
use Rattle.terms.specs.Regret.{best}
use Rattle.measuring.specs.Bests.{Labelled}
use Rattle.measuring.proofs.BestLaws.{best_labelled, joined_path}
use Rattle.measuring.proofs.bests.column_best.Goals as goal

pub returns-then-own-u : goal.returns-then-own-u
returns-then-own-u c =
    let labelled = rw c.in-Some.is at c.requires.labelled in
    best_labelled c.requires.joined c.requires.column (subst (λ x. Labelled c.args.columns.now c.args.goal x c.in-Some.own.labels.now) c.if-own-u.true labelled)

pub least_cost-requires : goal.least_cost-requires
least_cost-requires c =
    let J = c.requires.joined in
    let same = c.column.ensures.nodes in
    record { start = (J.start_from, omega (arith, J.start_to, same)); goal = omega (arith, J.goal_to, same) }

pub returns : goal.returns
returns c =
    let e = c.column.ensures.graph in
    c.least_cost.ensures _ (subst (λ g. Path g c.args.start c.args.goal c.requires.joined.route) (sym e) (joined_path c.requires.joined c.requires.column)) ∙ ap₂ (λ n g. best n g c.args.start c.args.goal) c.column.ensures.nodes e
