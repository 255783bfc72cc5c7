-- Search's rows and values, and what the answer is. Assumes nothing.
use Prim.Native.Nat.{ℕ, ◌≤◌, ◌<◌}
use native.Mathlib.Omega.{arith}
use mathlib.Core.Path.{◌≡◌, sym, ◌∙◌, ap, ap₂, subst}
use mathlib.Core.Logic.{⊎_elim}
use mathlib.Core.List.{List, [], ◌∷◌, ◌++◌}
use Rattle.std.specs.Prelude.{Result, Ok, Err}
use lib.ListN.{length, take, drop}
use lib.Seq.{length-take-le}
use borrow.Author.Tests.{lt-ltb, le-ltb}
use Rattle.terms.specs.Network.{Net, column, common, Admitted}
use Rattle.terms.specs.Paths.{Route, OpenPath}
use Rattle.terms.specs.Regret.{figure, worst}
use Rattle.terms.specs.Robust.{settled}
use Rattle.terms.proofs.ListLaws.{le_or_lt}
use Rattle.terms.proofs.PathLaws.{Within, column_within, of_path, at_most_nodes}
use Rattle.terms.proofs.CommonLaws.{common_admitted, common_nodes, common_path, path_common}
use Rattle.terms.proofs.Demand3Laws.{demand_3}
use Rattle.image.specs.Layout.{edition, net_of}
use Rattle.image.specs.Outcome.{sound, fault, row, gives, outcome, after}
use Rattle.image.specs.Calls.{image_fault}
use Rattle.image.proofs.NetworkLaws.{accepted_network}
use Rattle.image.proofs.OutcomeLaws.{then_next, then_fault, then_sound, outcome_sound, after_sound}
use Rattle.loading.specs.Accepted.{Ends}
use Rattle.loading.specs.Networks.{net}
use Rattle.loading.specs.declared.network.Network.{Network}
use Rattle.loading.proofs.DecodeLaws.{admitted}
use Rattle.outcomes.specs.Calls.{no_path_row, robust_of}
use Rattle.outcomes.proofs.RowLaws.{ends_sound, roomy}
use Rattle.outcomes.proofs.ShortestLaws.{row_none, row_some}
use Rattle.network_calls.specs.Held.{Reached}
use Rattle.descent.specs.Rule.{Best, FirstLeast, Answers, none_open, first_open}
use Rattle.descent.specs.Depth.{Holds, none_held, one_held, Outcome, whole, too_many}
use Rattle.descent.specs.declared.depth.Held.{Held}
use Rattle.descent.specs.declared.depth.Task.{Task}
use Rattle.descent.specs.declared.depth.Cut.{Cut}
use Rattle.descent.proofs.DescentLaws.{search_answers, settled_equal, settled_of}
use Rattle.search_calls.specs.Calls.{entry_rows, search_of, limit_of, decided_rows, search_fault, path_of, search_path, search_values}
use Rattle.search_calls.specs.Demands.{KeptSearch}

-- ---- row 19
module _ (b : List ℕ) (s t limit : ℕ) where
  pub few_tried : (search_of b s t).tried ≤ limit → limit_of b s t limit ≡ sound
  unfolding limit_of row
  few_tried h = rw (le-ltb limit (search_of b s t).tried h)

  pub many_tried : limit < (search_of b s t).tried → limit_of b s t limit ≡ fault 19 limit
  unfolding limit_of row
  many_tried h = rw (lt-ltb limit (search_of b s t).tried h)

-- ---- what was found, where there is a path
-- the beginning of best is the path of the rule's answer
record Told (net : Net) (s t : ℕ) (best : List ℕ) (len : ℕ) (z : Best) : Type 0 where
  fits : len ≤ length best
  path_is : take len best ≡ path_of z
  is_open : OpenPath net s t (path_of z)

told : {net : Net} {s t : ℕ} {best : List ℕ} {len fig : ℕ} {z : Best} {p : Route} → OpenPath net s t p → Holds best len fig z → Answers net s t z → Told net s t best len z
unfolding path_of
told {p = p} q (none_held _ _) (none_open n) = absurd (n p q)
told q (one_held _ fits is _ _) (first_open a) = record { fits = fits; path_is = sym is; is_open = a.is_path }

pub record Found (b : List ℕ) (s t limit : ℕ) (best : List ℕ) (h : Held) : Type 0 where
  pub fits : h.length ≤ length best
  pub short : h.length ≤ (net_of b).nodes
  pub path_is : take h.length best ≡ search_path b s t
  pub is_open : OpenPath (net_of b) s t (search_path b s t)
  pub tried_is : h.tried ≡ (search_of b s t).tried
  pub few : h.tried ≤ limit

module _ (b : List ℕ) (s t limit : ℕ) where
  pub found : {best : List ℕ} {r : Result Held Cut} → Admitted (edition b) (net_of b) → Reached (net_of b) s t → (h : Held) → Outcome limit (net_of b) s t best r → r ≡ Ok h → Found b s t limit best h
  unfolding search_path search_of
  found {best} ok R h (whole {h = g} m few) e =
      let same : g ≡ h = cc in
      let x = told R.path m.found_is (search_answers (net_of b) s t ok R.ends.start_in.from R.ends.start_in.upto) in
      let r : Found b s t limit best g = record {
        fits = x.fits;
        short = omega (arith, sym (length-take-le g.length best x.fits) ∙ ap length x.path_is, at_most_nodes (column_within ok 1) R.ends.start_in.from R.ends.start_in.upto (of_path (x.is_open.in_column 1 (omega arith) ok.columns_from)));
        path_is = x.path_is;
        is_open = x.is_open;
        tried_is = m.tried_is;
        few = omega (arith, m.tried_is);
      } in
      subst (Found b s t limit best) same r
  found ok R h (too_many _) e = let z : ◌≡◌ {A = ℕ} 0 1 = cc in absurd (omega arith)

  pub cut_many : {best : List ℕ} {r : Result Held Cut} {e : Cut} → Outcome limit (net_of b) s t best r → r ≡ Err e → limit_of b s t limit ≡ fault 19 limit
  unfolding search_of
  cut_many (whole _ _) e = let z : ◌≡◌ {A = ℕ} 0 1 = cc in absurd (omega arith)
  cut_many (too_many h) e = many_tried b s t limit h

-- the same of an accepted image and a task
pub found_in : (n : Network) (task : Task) {best : List ℕ} {r : Result Held Cut} {h : Held} → Reached (net n) task.start task.goal → Outcome task.limit (net n) task.start task.goal best r → r ≡ Ok h → Found n.image.now task.start task.goal task.limit best h
found_in n task {h = h} R o e = found n.image.now task.start task.goal task.limit (admitted n.accepted) R h o e

module _ {b : List ℕ} {s t limit : ℕ} {best : List ℕ} {h : Held} (F : Found b s t limit best h) where
  within : limit_of b s t limit ≡ sound
  within = few_tried b s t limit (omega (arith, F.few, F.tried_is))

  long : length (take h.length best) ≡ h.length
  long = length-take-le h.length best F.fits

  -- the values given
  pub values_are : {f w : ℕ} → f ≡ figure (net_of b) s t (take h.length best) → w ≡ worst (net_of b) s t (take h.length best) → gives (h.length ∷ f ∷ w ∷ h.tried ∷ []) ≡ outcome (limit_of b s t limit) (search_values b s t)
  unfolding search_values
  values_are {f} {w} e d =
      let p = F.path_is in
      ap₂ (λ (x y : ℕ). gives (x ∷ y ∷ w ∷ h.tried ∷ [])) (sym long ∙ ap length p) (e ∙ ap (figure (net_of b) s t) p)
      ∙ ap₂ (λ (x y : ℕ). gives (length (search_path b s t) ∷ figure (net_of b) s t (search_path b s t) ∷ x ∷ y ∷ [])) (d ∙ ap (worst (net_of b) s t) p) F.tried_is
      ∙ sym (outcome_sound _ within)

  -- what is written
  pub written_is : (old : List ℕ) {new : List ℕ} → new ≡ take h.length best ++ drop h.length old → new ≡ after (limit_of b s t limit) (search_path b s t) old
  written_is old e =
      e ∙ ap₂ (λ (p : List ℕ) (k : ℕ). p ++ drop k old) F.path_is (sym long ∙ ap length F.path_is) ∙ sym (after_sound _ old within)

-- the rule's answer, where there is a path, is the first with the least figure
first_of : {net : Net} {s t : ℕ} {p : Route} {z : Best} → OpenPath net s t p → Answers net s t z → FirstLeast net s t (path_of z) (figure net s t (path_of z))
unfolding path_of
first_of {p = p} h (none_open n) = absurd (n p h)
first_of {net} {s} {t} h (first_open {p} a) = subst (FirstLeast net s t p) a.own_figure a

-- ---- the rows before 15
pub record EntrySound (b : List ℕ) (s t room : ℕ) : Type 0 where
  pub ok : Admitted (edition b) (net_of b)
  pub ends : Ends (net_of b).nodes s t
  pub room_for : (net_of b).nodes ≤ room

pub entry_accepted : (b : List ℕ) (s t room : ℕ) → entry_rows b s t room ≡ sound → image_fault b ≡ sound
unfolding entry_rows
entry_accepted b s t room e = (then_sound _ _ (then_sound _ _ e).0).0

pub entry_sound : (b : List ℕ) (s t room : ℕ) → entry_rows b s t room ≡ sound → EntrySound b s t room
unfolding entry_rows
entry_sound b s t room e =
    let e₁ = then_sound _ _ e in
    let e₂ = then_sound _ _ e₁.0 in
    record { ok = accepted_network b e₂.0; ends = ends_sound _ _ _ e₂.1; room_for = roomy _ _ e₁.1 }

-- ---- what Search promises
module _ (b : List ℕ) (s t limit room : ℕ) where
  module _ (e : entry_rows b s t room ≡ sound) where
    E : EntrySound b s t room
    E = entry_sound b s t room e

    within_common : Within (net_of b).nodes (column (common (net_of b)) 1)
    within_common = subst (λ n. Within n (column (common (net_of b)) 1)) (common_nodes (net_of b)) (column_within (common_admitted E.ok) 1)

    fault_is : search_fault b s t limit room ≡ decided_rows b s t limit
    unfolding search_fault
    fault_is = then_next _ e

    none_fault : ((p : Route) → OpenPath (net_of b) s t p → ⊥) → search_fault b s t limit room ≡ fault 15 0
    unfolding decided_rows
    none_fault none = fault_is ∙ then_fault _ (row_none (net_of b).nodes (λ p h. none p (common_path E.ok 1 h)))

    module _ (p : Route) (h : OpenPath (net_of b) s t p) where
      row_15 : no_path_row (net_of b).nodes (column (common (net_of b)) 1) s t ≡ sound
      row_15 = row_some (net_of b).nodes within_common E.ends.start_in.from E.ends.start_in.upto (path_common E.ok 1 (omega arith) E.ok.columns_from h)

      limited : search_fault b s t limit room ≡ limit_of b s t limit
      unfolding decided_rows
      limited = fault_is ∙ then_next _ row_15

      not_15 : search_fault b s t limit room ≡ fault 15 0 → ⊥
      not_15 z = ⊎_elim (λ k. clash_sound (sym z ∙ limited ∙ few_tried b s t limit k)) (λ k. clash_19 (sym z ∙ limited ∙ many_tried b s t limit k)) (le_or_lt (search_of b s t).tried limit)
        where
          clash_sound : fault 15 0 ≡ sound → ⊥
          clash_sound d = let z : ◌≡◌ {A = ℕ} 0 1 = cc in omega arith

          clash_19 : fault 15 0 ≡ fault 19 limit → ⊥
          clash_19 d = let z : ◌≡◌ {A = ℕ} 15 19 = cc in omega arith

      answers : FirstLeast (net_of b) s t (search_path b s t) (figure (net_of b) s t (search_path b s t))
      unfolding search_path search_of
      answers = first_of h (search_answers (net_of b) s t E.ok E.ends.start_in.from E.ends.start_in.upto)

    same : (r K : ℕ) → 1 ≤ r → r ≤ length (net_of b).columns → 1 ≤ K → {q : Route} {f w n : ℕ} → robust_of b r s t K ≡ settled q f w n → f ≡ figure (net_of b) s t (search_path b s t)
    unfolding robust_of
    same r K from upto some {q} d =
        let S = settled_of (net_of b) r s t K d (demand_3 (net_of b) r s t E.ok E.ends.start_in.from E.ends.start_in.upto from upto K some) in
        sym (settled_equal (net_of b) r s t K (answers q S.is_path) S)

  pub kept_search : KeptSearch b s t limit room
  kept_search = record {
    refused_none = λ e z p h. not_15 e p h z;
    none_refused = none_fault;
    many_refused = λ e p h k. limited e p h ∙ many_tried b s t limit k;
    few_given = λ e p h k. limited e p h ∙ few_tried b s t limit k;
    first_least = answers;
    same_figure = same;
  }
