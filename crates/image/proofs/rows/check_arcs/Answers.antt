-- `image::rows::check_arcs` meets its contract. Assumes nothing.
use native.Mathlib.Omega.{arith}
use mathlib.Core.Path.{sym, ◌∙◌}
use Rattle.image.proofs.RowLaws.{arc_found, arc_passed, arcs_end}
use Rattle.image.proofs.AnswerLaws.{handed_verdict}
use Rattle.image.proofs.rows.check_arcs.Goals as goal

pub returns-in_err-check_arc : goal.returns-in_err-check_arc
returns-in_err-check_arc g c arcs long given =
    handed_verdict _ _ c.from_residual.ensures.1
    ∙ sym (c.loop-i.invariant.1 arcs long given ∙ arc_found _ _ arcs _ (omega arith) (given c.loop-i.i _ (omega arith) c.arc-here.ensures) (sym c.in_err-check_arc.ensures))

pub loop-i-preserved : goal.loop-i-preserved
loop-i-preserved g c = (
  omega arith,
  λ arcs long given.
      c.loop-i.invariant.1 arcs long given ∙ arc_passed _ _ arcs _ (omega arith) (given c.loop-i.i _ (omega arith) c.arc-here.ensures) (sym c.in_ok-check_arc.ensures),
)

pub returns : goal.returns
returns g c arcs long given = sym (c.loop-i.invariant.1 arcs long given ∙ arcs_end _ _ arcs _ (omega arith))
