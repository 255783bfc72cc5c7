-- `sheet::printing::decide`: the image's refusal, or Robust's answer. Assumes nothing.
use mathlib.Core.Path.{refl, sym, ◌∙◌, ap}
use Rattle.std.specs.Prelude.{Err}
use Rattle.image.specs.Answers.{answer, size_list}
use Rattle.image.proofs.CheckLaws.{rejected}
use Rattle.loading.specs.Accepted.{Accepted}
use Rattle.outcomes.proofs.RowLaws.{given_network}
use Rattle.sheet.proofs.PrintLaws.{sheet_refused, decided_refused, sheet_told, sheet_printable}
use Rattle.sheet.proofs.printing.decide.Goals as goal

pub returns-in_default-clause-told : goal.returns-in_default-clause-told
returns-in_default-clause-told c =
    decided_refused (Err c.unwrap_err.result) c.unwrap_err.result c.args.path.now refl ∙ sheet_refused c.args.image.now (rejected c.args.image.now (sym (ap (answer size_list) c.unwrap_err.ensures) ∙ c.check-answer.ensures))

pub returns : goal.returns
returns c =
    let accepted : Accepted c.args.image.now c.in-Ok.sizes = given_network c.in-Ok.ensures in
    record {
      printable = sheet_printable c.args.image.now accepted.passes c.robust.result c.robust.new.path c.args.path.now c.args.work.now accepted.nodes_are c.requires.0 c.requires.1 c.robust.ensures.result_value c.robust.ensures.path_after (c.robust.auto.path ∙ c.requires.0);
      told = sheet_told c.args.image.now accepted.passes c.robust.result c.robust.new.path c.args.path.now c.args.work.now accepted.nodes_are c.requires.0 c.requires.1 c.robust.ensures.result_value c.robust.ensures.path_after;
    }
