-- `shortest::shortest` writes the path where no row applies, and else nothing. Assumes nothing.
use Prim.Native.Nat.{ℕ}
use mathlib.Core.Path.{◌≡◌, sym, ◌∙◌, ap}
use mathlib.Core.List.{List}
use Rattle.image.specs.Outcome.{sound, gives, outcome, after}
use Rattle.image.specs.Calls.{sizes}
use Rattle.image.specs.Answers.{size_list}
use Rattle.image.specs.declared.check.Sizes.{Sizes}
use Rattle.image.proofs.AnswerLaws.{handed_on}
use Rattle.image.proofs.OutcomeLaws.{then_fault, then_next, outcome_fault, after_fault, refuses_fault}
use Rattle.outcomes.specs.Calls.{shortest_rows, path_row, shortest_fault, shortest_of, shortest_values, shortest_outcome}
use Rattle.loading.specs.Accepted.{Accepted}
use Rattle.outcomes.proofs.RowLaws.{given_sizes}
use Rattle.outcomes.proofs.ShortestLaws.{shortest_sound}
use Rattle.column_calls.proofs.shortest.shortest.Goals as goal

-- sizes are given only where no row before 15 applies
passes : {b : List ℕ} (u s t room : ℕ) {z : Sizes} → gives (size_list z) ≡ outcome (shortest_rows b u s t room) (sizes b) → (shortest_rows b u s t room ≡ sound) × Accepted b z
passes u s t room e = given_sizes _ (λ h. (shortest_sound _ _ _ _ _ h).search.accepted) e

pub returns-in_err-sizes : goal.returns-in_err-sizes
unfolding shortest_outcome shortest_fault
returns-in_err-sizes c =
    let e = then_fault _ (refuses_fault _ _ c.in_err-sizes.ensures) in
    record { result_value = handed_on _ _ _ c.from_residual.ensures.1 ∙ sym (outcome_fault _ e); path_after = sym (after_fault _ _ e) }

pub write_shortest-requires : goal.write_shortest-requires
write_shortest-requires c = (shortest_sound _ _ _ _ _ (passes _ _ _ _ c.in_ok-sizes.ensures).0).room_for

pub invariant_of-trip-2 : goal.invariant_of-trip-2
invariant_of-trip-2 c =
    let g = shortest_sound _ _ _ _ _ (passes _ _ _ _ c.in_ok-sizes.ensures).0 in
    record { in_column = record { from = g.search.from; upto = g.search.upto }; ends = g.search.ends }

pub returns : goal.returns
unfolding shortest_outcome shortest_fault
returns c =
    let e = sym (then_next (path_row c.args.image.now c.args.column c.args.start c.args.goal) (passes _ _ _ _ c.in_ok-sizes.ensures).0) in
    record { result_value = c.write_shortest.ensures.result_value ∙ ap (λ f. outcome f (shortest_values c.args.image.now c.args.column c.args.start c.args.goal)) e; path_after = c.write_shortest.ensures.path_after ∙ ap (λ f. after f (shortest_of c.args.image.now c.args.column c.args.start c.args.goal) c.args.path.now) e }

pub invariant_of-trip : goal.invariant_of-trip
invariant_of-trip c = record { accepted = (passes _ _ _ _ c.in_ok-sizes.ensures).1 }
