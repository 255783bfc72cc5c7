-- `find::find` searches an image that Check accepts. Assumes nothing.
use mathlib.Core.Path.{sym, ◌∙◌, ap}
use Rattle.image.specs.Answers.{answer, size_list}
use Rattle.image.proofs.OutcomeLaws.{outcome_fault}
use Rattle.image.proofs.CheckLaws.{accepted, rejected}
use Rattle.loading.proofs.DecodeLaws.{accepted_of}
use Rattle.arc_calls.specs.Calls.{find_outcome}
use Rattle.arc_calls.proofs.FindLaws.{finds_arc, mapped, taken_values}
use Rattle.arc_calls.proofs.find.find.Goals as goal

pub returns-in_default : goal.returns-in_default
unfolding find_outcome
returns-in_default c =
    record { result_value = sym (outcome_fault _ (rejected _ (sym (ap (answer size_list) c.unwrap_err.ensures) ∙ c.check-answer.ensures))); finds_arc = finds_arc _ _ _ }

pub invariant_of-network : goal.invariant_of-network
invariant_of-network c =
    let g = accepted _ c.in-Ok.ensures in
    record { accepted = accepted_of g.0 g.1 }

pub returns : goal.returns
returns c =
    record { result_value = taken_values _ _ _ (accepted _ c.in-Ok.ensures).0 c.seek_arc-sought.ensures (mapped _ _ (λ x y l. l.said-raw.1.1) c.map.ensures.cases); finds_arc = finds_arc _ _ _ }
