-- `sheet::printing::answer_page` meets its contract. Assumes nothing.
use mathlib.Core.Path.{sym, ◌∙◌, ap, subst}
use Rattle.sheet.specs.Answers.{nodes_of, decided_text, Printable}
use Rattle.sheet.proofs.LineLaws.{printable_part}
use Rattle.sheet.proofs.printing.answer_page.Goals as goal

pub decision_page-requires : goal.decision_page-requires
decision_page-requires c = printable_part (subst (λ a. Printable c.args.path.now (nodes_of a)) c.in-Ok.is c.requires)

pub returns-in-Ok : goal.returns-in-Ok
returns-in-Ok c = c.decision_page.ensures ∙ sym (ap (λ a. decided_text a c.args.path.now) c.in-Ok.is)

pub returns-in-Err : goal.returns-in-Err
returns-in-Err c = c.refusal_page.ensures ∙ sym (ap (λ a. decided_text a c.args.path.now) c.in-Err.is)
