-- `sheet::lines::decision_page`: the line of the count is that of the floor's case, and all lines fit. Assumes nothing.
use native.Mathlib.Omega.{arith}
use mathlib.Core.Path.{sym, ◌∙◌, ap}
use Rattle.network_calls.specs.Answers.{answer_of}
use Rattle.sheet.specs.Sheet.{open_line, answer_text}
use Rattle.sheet.proofs.TextLaws.{grown_both, grown_first}
use Rattle.sheet.proofs.LineLaws.{settled_short, open_short}
use Rattle.sheet.proofs.lines.decision_page.Goals as goal

pub returns-in-None : goal.returns-in-None
unfolding answer_text
returns-in-None c =
    let d = c.args.found in
    grown_first c.new-page.ensures (grown_both c.write_choice.ensures c.write_count.ensures) (settled_short c.requires (omega arith) (omega arith) (omega arith))
    ∙ ap (λ z. answer_text (answer_of c.args.path.now d.figure d.worst d.count z)) (sym c.in-None.is)

pub returns-in-Some : goal.returns-in-Some
unfolding answer_text open_line
returns-in-Some c =
    let d = c.args.found in
    grown_first c.new-page.ensures (grown_both c.write_choice.ensures c.write_pair.ensures) (open_short c.requires (omega arith) (omega arith) (omega arith) (grind arith))
    ∙ ap (λ z. answer_text (answer_of c.args.path.now d.figure d.worst d.count z)) (sym c.in-Some.is)
