-- `image::check::check_taken` meets its contract. Assumes nothing.
use Rattle.image.proofs.CheckLaws.{sized, bounds, body_decides}
use mathlib.Core.Path.{◌∙◌}
use Rattle.image.specs.Calls.{header_fault, taken_fault, sizes}
use Rattle.image.proofs.OutcomeLaws.{gives_sound}
use Rattle.image.proofs.AnswerLaws.{ends_first}
use Rattle.image.proofs.check.check_taken.Goals as goal

pub returns-in_err-sizes : goal.returns-in_err-sizes
unfolding taken_fault
returns-in_err-sizes c = ends_first _ _ _ c.from_residual.ensures.1 (header_fault _ _) _ c.in_err-sizes.ensures _ _

pub check_body-requires : goal.check_body-requires
check_body-requires c =
    let g = gives_sound (header_fault c.args.latest c.args.image.now) (sizes c.args.image.now) c.in_ok-sizes.ensures in
    bounds _ _ _ _ _ _ g.0 (sized c.args.image.now g.1)

pub returns : goal.returns
returns c =
    let g = gives_sound (header_fault c.args.latest c.args.image.now) (sizes c.args.image.now) c.in_ok-sizes.ensures in
    c.check_body.ensures ∙ body_decides _ _ _ _ _ _ g.0 (sized c.args.image.now g.1)
