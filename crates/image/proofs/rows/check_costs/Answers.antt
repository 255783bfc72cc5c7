-- `image::rows::check_costs` meets its contract. Assumes nothing.
use native.Mathlib.Omega.{arith}
use mathlib.Core.Path.{◌≡◌, sym, ◌∙◌, ap}
use lib.ListN.{get_or}
use Rattle.image.specs.Rows.{is_cost}
use Rattle.image.proofs.RowLaws.{cost_found, cost_passed, costs_end}
use Rattle.image.proofs.rows.check_costs.Goals as goal

pub returns-then-not-is_cost : goal.returns-then-not-is_cost
returns-then-not-is_cost g c costs long given =
    let tested : c.is_cost.result ≡ is_cost c.args.edition (get_or costs c.loop-i.i 0) = c.is_cost.ensures ∙ ap (is_cost c.args.edition) (sym (given c.loop-i.i _ (omega arith) c.cost.ensures)) in
    sym (c.loop-i.invariant.1 costs long given ∙ cost_found _ costs _ (omega arith) (sym tested ∙ c.if-not-is_cost.true))

pub loop-i-preserved : goal.loop-i-preserved
loop-i-preserved g c = (
  omega arith,
  λ costs long given.
      let tested : c.is_cost.result ≡ is_cost c.args.edition (get_or costs c.loop-i.i 0) = c.is_cost.ensures ∙ ap (is_cost c.args.edition) (sym (given c.loop-i.i _ (omega arith) c.cost.ensures)) in
      c.loop-i.invariant.1 costs long given ∙ cost_passed _ costs _ (omega arith) (sym tested ∙ c.if-not-is_cost.false),
)

pub returns : goal.returns
returns g c costs long given = sym (c.loop-i.invariant.1 costs long given ∙ costs_end _ costs _ (omega arith))
