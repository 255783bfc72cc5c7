-- The text that `sheet` names lies in the slice.
use Rattle.std.proofs.Common.{◌≤◌, ◌∙◌, sym, ap, length}
use lib.Seq.{length-take-le}
use Rattle.sheet.specs.Answers.{printed}
use Rattle.sheet.proofs.PrintLaws.{sheet_fits}
use Rattle.vihrolom.proofs.print.Goals as goal

pub slice_bounds-write_all-end : goal.slice_bounds-write_all-end
slice_bounds-write_all-end g c =
    let fits : c.in-Ok.length ≤ length c.sheet.new.text = sheet_fits c.args.image.now c.args.text.now (sym (ap printed c.in-Ok.is) ∙ c.sheet.ensures.result_value) c.sheet.ensures.text_after in
    fits

pub slice_bounds-write_all-end-in-Ok : goal.slice_bounds-write_all-end-in-Ok
slice_bounds-write_all-end-in-Ok g c =
    let fits : c.in-Ok.length ≤ length c.sheet.new.text = sheet_fits c.args.image.now c.args.text.now (sym (ap printed c.in-Ok.is) ∙ c.sheet.ensures.result_value) c.sheet.ensures.text_after in
    sym (length-take-le _ _ fits)
