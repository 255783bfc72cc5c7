-- What Robust's rows say where none applies, its answer, and demand 3. Assumes nothing.
use Prim.Native.Nat.{ℕ, ◌+◌, ◌*◌, ◌≤◌}
use native.Mathlib.Omega.{arith}
use mathlib.Core.Path.{◌≡◌, refl, sym, ◌∙◌, ap, ap₂, subst}
use mathlib.Core.List.{List, [], ◌∷◌, ◌++◌}
use Rattle.std.specs.Prelude.{Option, Some, None}
use lib.ListN.{length, take, drop}
use lib.Seq.{length-take-le}
use Rattle.terms.specs.Network.{column, common, Admitted}
use Rattle.terms.specs.Paths.{Route, OpenPath}
use Rattle.terms.specs.Robust as terms
use Rattle.terms.specs.Robust.{robust}
use Rattle.terms.proofs.Demand3Laws.{demand_3}
use Rattle.terms.proofs.PathLaws.{Within, column_within}
use Rattle.terms.proofs.CommonLaws.{common_admitted, common_nodes, common_path, path_common}
use Rattle.image.specs.Layout.{edition, net_of}
use Rattle.image.specs.Outcome.{Fault, sound, fault, Outcome, gives, outcome, after}
use Rattle.image.proofs.NetworkLaws.{accepted_network}
use Rattle.image.proofs.OutcomeLaws.{then_next, then_sound, outcome_sound, after_sound}
use Rattle.ranking.specs.Ranking.{Space}
use Rattle.choosing.specs.Answers.{answer_of, chosen_length, answered}
use Rattle.choosing.specs.declared.answering.Decision.{Decision}
use Rattle.outcomes.specs.Calls.{no_path_row, choice_row, robust_rows, robust_fault, robust_of, chosen, robust_values, cleared}
use Rattle.closures.specs.Map.{without}
use Rattle.closures.proofs.WithoutLaws.{without_none}
use Rattle.outcomes.specs.Demands.{Kept3}
use Rattle.outcomes.proofs.RowLaws.{SearchSound, RankingSound, ranking_sound, roomy}
use Rattle.outcomes.proofs.WorkLaws.{slots_fit}
use Rattle.outcomes.proofs.ShortestLaws.{row_none, row_some}
use Rattle.network_calls.specs.Answers.{state_of, floor_of, decision_list}
use Rattle.network_calls.specs.Held.{no_open_path, ChoiceSlices}

-- ---- the rows before 15
module _ (b : List ℕ) (r s t K : ℕ) (path work : List ℕ) (e : robust_rows b r s t K (length path) (length work) ≡ sound) where
  sound_rows : RankingSound b r s t K (length work)
  unfolding robust_rows
  sound_rows = ranking_sound b r s t K (length work) (then_sound _ _ e).0

  pub robust_sound : SearchSound b r s t
  robust_sound = sound_rows.search

  pub choice_slices : ChoiceSlices (net_of b).nodes K path work
  unfolding robust_rows
  choice_slices = record { wanted_from = sound_rows.wanted_from; wanted_to = sound_rows.wanted_to; path_long = roomy _ _ (then_sound _ _ e).1; slots_long = slots_fit (net_of b).nodes K (length work) sound_rows.work_long }

pub space_for : {n N K : ℕ} {path work : List ℕ} → n ≡ N → ChoiceSlices N K path work → Space n (K + 1) work
space_for {n} {K = K} e S = record { some = omega arith; few = omega (arith, S.wanted_to); room = omega (arith, S.slots_long, ap (λ (x : ℕ). (K + 1) * (x + 16)) e) }

-- ---- the answer
module _ (d : Decision) where
  pub chosen_answered : (p : Route) → chosen (answered p d) ≡ p
  unfolding chosen
  chosen_answered p = by_floor d.floor
    where
      by_floor : (floor : Option ℕ) → chosen (answer_of p d.figure d.worst d.count floor) ≡ p
      by_floor None = refl
      by_floor (Some floor) = refl

  -- the beginning of new is the path that was chosen, and the rest of it is old
  module _ {ans : terms.Answer} (old : List ℕ) {new : List ℕ} (e : answered (take (chosen_length d) new) d ≡ ans) (w : new ≡ take (chosen_length d) new ++ drop (chosen_length d) old) (h : chosen_length d ≤ length new) where
    pub chosen_long : length (take (chosen_length d) new) ≡ chosen_length d
    chosen_long = length-take-le (chosen_length d) new h

    pub chosen_written : new ≡ after sound (chosen ans) old
    chosen_written =
        let p-is : take (chosen_length d) new ≡ chosen ans = sym (chosen_answered (take (chosen_length d) new)) ∙ ap chosen e in
        w ∙ ap₂ (λ (p : Route) (k : ℕ). p ++ drop k old) p-is (sym chosen_long ∙ ap length p-is) ∙ sym (after_sound _ old refl)

-- what is found where there is a path
module _ (a : terms.Answer) {f : Fault} (e : f ≡ sound) where
  pub values_in : {o : Outcome} → o ≡ gives (robust_values a) → o ≡ outcome f (robust_values a)
  values_in h = h ∙ sym (outcome_sound _ e)

  pub path_in : (old : List ℕ) {new : List ℕ} → new ≡ after sound (chosen a) old → new ≡ after f (chosen a) old
  path_in old h = h ∙ ap (λ f. after f (chosen a) old) (sym e)

-- with an empty map what comes of the network without its closed arcs is Robust's on the image
module _ (b : List ℕ) (r s t K : ℕ) where
  pub whole_values : {o : Outcome} → o ≡ outcome (no_open_path (without [] (net_of b)) r s t) (robust_values (robust (without [] (net_of b)) r s t K)) → o ≡ outcome (no_open_path (net_of b) r s t) (robust_values (robust_of b r s t K))
  unfolding robust_of
  whole_values e = e ∙ ap (λ net. outcome (no_open_path net r s t) (robust_values (robust net r s t K))) (without_none (net_of b))

  pub whole_path : (old : List ℕ) {new : List ℕ} → new ≡ after (no_open_path (without [] (net_of b)) r s t) (chosen (robust (without [] (net_of b)) r s t K)) old → new ≡ after (no_open_path (net_of b) r s t) (chosen (robust_of b r s t K)) old
  unfolding robust_of
  whole_path old e = e ∙ ap (λ net. after (no_open_path net r s t) (chosen (robust net r s t K)) old) (without_none (net_of b))

  pub whole_work : (old : List ℕ) {new : List ℕ} → new ≡ cleared (no_open_path (without [] (net_of b)) r s t) old → new ≡ cleared (no_open_path (net_of b) r s t) old
  whole_work old e = e ∙ ap (λ net. cleared (no_open_path net r s t) old) (without_none (net_of b))

-- the values of a decision whose path is p
module _ (d : Decision) (p : Route) (l : length p ≡ chosen_length d) where
  pub decision_values : decision_list d ≡ robust_values (answered p d)
  unfolding robust_values
  decision_values = ap (λ (x : ℕ). x ∷ d.figure ∷ d.worst ∷ d.count ∷ state_of d.floor ∷ floor_of d.floor ∷ []) (sym l) ∙ by_floor d.floor
    where
      by_floor : (floor : Option ℕ) → length p ∷ d.figure ∷ d.worst ∷ d.count ∷ state_of floor ∷ floor_of floor ∷ [] ≡ robust_values (answer_of p d.figure d.worst d.count floor)
      by_floor None = refl
      by_floor (Some floor) = refl

-- ---- demand 3
module _ (b : List ℕ) (r s t K path work : ℕ) where
  module _ (e : robust_rows b r s t K path work ≡ sound) where
    checks : RankingSound b r s t K work
    unfolding robust_rows
    checks = ranking_sound b r s t K work (then_sound _ _ e).0

    ok : Admitted (edition b) (net_of b)
    ok = accepted_network b checks.search.accepted

    -- the paths open in every column are those of the ranked list's network
    within : Within (net_of b).nodes (column (common (net_of b)) r)
    within = subst (λ n. Within n (column (common (net_of b)) r)) (common_nodes (net_of b)) (column_within (common_admitted ok) r)

    fault_is : robust_fault b r s t K path work ≡ no_path_row (net_of b).nodes (column (common (net_of b)) r) s t
    unfolding robust_fault choice_row
    fault_is = then_next _ e

    given : (p : Route) → OpenPath (net_of b) s t p → robust_fault b r s t K path work ≡ sound
    given p h =
        let c = checks.search in
        fault_is ∙ row_some (net_of b).nodes within c.ends.start_in.from c.ends.start_in.upto (path_common ok r c.from c.upto h)

    none_given : ((p : Route) → OpenPath (net_of b) s t p → ⊥) → robust_fault b r s t K path work ≡ fault 15 0
    none_given none = fault_is ∙ row_none (net_of b).nodes (λ p h. none p (common_path ok r h))

  never : {A : Type 0} {f : Fault} {number place : ℕ} → f ≡ fault number place → f ≡ sound → A
  never e g = let z : ◌≡◌ {A = ℕ} 0 1 = cc in absurd (omega arith)

  pub kept_3 : Kept3 b r s t K path work
  unfolding robust_of
  kept_3 = record {
    refused_none = λ e f p h. never f (given e p h);
    none_refused = none_given;
    some_given = given;
    demand = λ e. let k = checks e in demand_3 (net_of b) r s t (ok e) k.search.ends.start_in.from k.search.ends.start_in.upto k.search.from k.search.upto K k.wanted_from;
  }
