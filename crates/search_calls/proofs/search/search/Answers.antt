-- `search::search` decides where no row before 15 applies, and else writes nothing. Assumes nothing.
use Prim.Native.Nat.{ℕ}
use mathlib.Core.Path.{◌≡◌, sym, ◌∙◌, ap}
use mathlib.Core.List.{List}
use lib.ListN.{length}
use Rattle.image.specs.Outcome.{sound, gives, outcome, after}
use Rattle.image.specs.Calls.{sizes}
use Rattle.image.specs.Answers.{size_list}
use Rattle.image.specs.declared.check.Sizes.{Sizes}
use Rattle.image.proofs.AnswerLaws.{handed_on}
use Rattle.image.proofs.OutcomeLaws.{then_fault, then_next, outcome_fault, after_fault, refuses_fault}
use Rattle.loading.specs.Accepted.{Accepted}
use Rattle.outcomes.proofs.RowLaws.{given_sizes}
use Rattle.search_calls.specs.Calls.{entry_rows, decided_rows, search_fault, search_path, search_values, search_outcome}
use Rattle.search_calls.proofs.AnswerLaws.{entry_sound, entry_accepted, kept_search}
use Rattle.search_calls.proofs.search.search.Goals as goal

-- sizes are given only where no row before 15 applies
passes : {b : List ℕ} (s t room : ℕ) {z : Sizes} → gives (size_list z) ≡ outcome (entry_rows b s t room) (sizes b) → (entry_rows b s t room ≡ sound) × Accepted b z
passes s t room e = given_sizes _ (entry_accepted _ s t room) e

pub returns-in_err-sizes : goal.returns-in_err-sizes
unfolding search_outcome search_fault
returns-in_err-sizes c =
    let f = then_fault _ (refuses_fault _ _ c.in_err-sizes.ensures) in
    record { result_value = handed_on _ _ _ c.from_residual.ensures.1 ∙ sym (outcome_fault _ f); path_after = sym (after_fault _ _ f); kept_search = kept_search c.args.image.now c.args.start c.args.goal c.args.limit (length c.args.path.now) }

pub decide-requires : goal.decide-requires
decide-requires c =
    let E = entry_sound _ _ _ _ (passes _ _ _ c.in_ok-sizes.ensures).0 in
    record { ends = E.ends; path_long = E.room_for }

pub returns : goal.returns
unfolding search_outcome search_fault
returns c =
    let e = sym (then_next (decided_rows c.args.image.now c.args.start c.args.goal c.args.limit) (passes _ _ _ c.in_ok-sizes.ensures).0) in
    record { result_value = c.decide.ensures.result_value ∙ ap (λ f. outcome f (search_values c.args.image.now c.args.start c.args.goal)) e; path_after = c.decide.ensures.path_after ∙ ap (λ f. after f (search_path c.args.image.now c.args.start c.args.goal) c.args.path.now) e; kept_search = kept_search c.args.image.now c.args.start c.args.goal c.args.limit (length c.args.path.now) }

pub invariant_of-network : goal.invariant_of-network
invariant_of-network c = record { accepted = (passes _ _ _ c.in_ok-sizes.ensures).1 }
