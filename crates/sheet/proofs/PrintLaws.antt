-- What Robust answers for the program prints the sheet, and its path fits in it. Assumes nothing.
use Prim.Native.Nat.{ℕ, ◌+◌, ◌*◌, ◌≤◌, ◌<◌}
use native.Mathlib.Omega.{arith}
use mathlib.Core.Path.{◌≡◌, sym, ◌∙◌, ap, subst}
use mathlib.Core.Logic.{⊎_elim}
use mathlib.Core.List.Memᴰ
use mathlib.Core.List.{List, [], ◌∷◌, tail}
use Rattle.std.specs.Prelude.{Option, Some, None, Result, Ok, Err, IsErrAnd}
use lib.ListN.{length, get_or, take, drop, length-append}
use lib.Seq.{take_at, get_or-take}
use borrow.Author.Tests.{lt-ltb, le-ltb}
use Rattle.terms.specs.Lists.{◌∈◌}
use Rattle.terms.specs.Network.{Net, Graph, Admitted, column}
use Rattle.terms.specs.Paths.{Route, ByArcs, along, Path, OpenPath}
use Rattle.terms.specs.Robust.{Answer, settled, left_open, no_path}
use Rattle.terms.specs.Demand3.{Demand3, none, closed, unsettled}
use Rattle.terms.proofs.ListLaws.{get_or_mem}
use Rattle.terms.proofs.PathLaws.{Within, of_path, at_most_nodes, column_within}
use Rattle.terms.proofs.Demand3Laws.{demand_3}
use Rattle.image.specs.Outcome.{Fault, sound, fault, row, ◌then◌, gives, outcome, after}
use Rattle.image.specs.Refusals.{number_of, place_of}
use Rattle.image.specs.Layout.{net_of}
use Rattle.image.specs.Calls.{image_fault}
use Rattle.image.proofs.OutcomeLaws.{gives_sound, refuses_fault, after_sound}
use Rattle.image.proofs.NetworkLaws.{accepted_network}
use Rattle.outcomes.specs.Calls.{room_row, workspace, search_rows, ranking_rows, robust_rows, robust_fault, robust_of, chosen, robust_values, robust_outcome}
use Rattle.image.specs.Answers as image
use Rattle.image.specs.declared.refusal.Refusal.{Refusal}
use Rattle.network_calls.specs.Answers.{Decision, state_of, floor_of, decision_list, answer_of, answered}
use Rattle.sheet.specs.Sheet.{answer_text, refused_line, sheet_of, program_fault, program_answer, sheet}
use Rattle.sheet.specs.Answers.{nodes_of, decided_text, Printable, sheet_fault, sheet_outcome}

-- ---- the answer, from its values
values_are : (a : Answer) {len f w c : ℕ} (z : Option ℕ) → len ∷ f ∷ w ∷ c ∷ state_of z ∷ floor_of z ∷ [] ≡ robust_values a → (answer_of (chosen a) f w c z ≡ a) × (len ≡ length (chosen a))
unfolding robust_values chosen
values_are (settled p f w c) None e = (cc, cc)
values_are (settled p f w c) (Some floor) e = let z : ◌≡◌ {A = ℕ} 2 1 = cc in absurd (omega arith)
values_are (left_open p f w c floor) None e = let z : ◌≡◌ {A = ℕ} 1 2 = cc in absurd (omega arith)
values_are (left_open p f w c floor) (Some floor') e = (cc, cc)
values_are no_path z e = let z : ◌≡◌ {A = ℕ} 0 1 = cc in absurd (omega arith)

-- ---- an answer for rows f and answer a, with the path in a slice
module _ (f : Fault) (a : Answer) {path : List ℕ} (path₀ : List ℕ) (held : path ≡ after f (chosen a) path₀) where
  -- the path stands at the beginning of the slice
  begins : {n : ℕ} → f ≡ sound → n ≡ length (chosen a) → take n path ≡ chosen a
  begins {n} ok l =
      ap (λ (q : List ℕ). take n q) (held ∙ after_sound (chosen a) path₀ ok)
      ∙ take_at (chosen a) (drop (length (chosen a)) path₀) n (sym l)

  -- what is printed
  pub told : (r : Result Decision Refusal) → image.answer decision_list r ≡ outcome f (robust_values a) → decided_text r path ≡ sheet_of f a
  unfolding sheet_of
  told (Ok d) e =
      let g = gives_sound f (robust_values a) e in
      let s = values_are a d.floor g.1 in
      ap (λ (q : Route). answer_text (answered q d)) (begins g.0 s.1)
      ∙ ap answer_text s.0
      ∙ ap (λ (k : Fault). sheet_of k a) (sym g.0)
  told (Err r) e = ap (λ (k : Fault). sheet_of k a) (sym (refuses_fault f (robust_values a) e))

  -- and that the path fits
  module _ (long : length path ≡ 200) (few : length (chosen a) ≤ 200) (small : (x : ℕ) → x ∈ chosen a → x < 1000) where
    fits : {n : ℕ} → f ≡ sound → n ≡ length (chosen a) → Printable path n
    fits {n} ok l = record { few = omega arith; within = omega arith; small = λ i h. digits i h }
      where
        digits : (i : ℕ) → i < n → get_or path i 0 < 1000
        digits i h =
            let same : get_or path i 0 ≡ get_or (chosen a) i 0 = sym (get_or-take n path i 0 h) ∙ ap (λ (q : List ℕ). get_or q i 0) (begins ok l) in
            subst (λ (x : ℕ). x < 1000) (sym same) (small (get_or (chosen a) i 0) (get_or_mem (chosen a) 0 i (omega arith)))

    pub printable : (r : Result Decision Refusal) → image.answer decision_list r ≡ outcome f (robust_values a) → Printable path (nodes_of r)
    printable (Ok d) e = let g = gives_sound f (robust_values a) e in fits g.0 (values_are a d.floor g.1).1
    printable (Err r) e = record { few = omega arith; within = omega arith; small = λ i h. absurd (omega arith) }

-- ---- the chosen path has at most 200 nodes, of at most three digits
nodes_to : {n : ℕ} {g : Graph} → Within n g → (v : ℕ) (p : List ℕ) → ByArcs g (v ∷ p) → {x : ℕ} → x ∈ p → x ≤ n
nodes_to w v [] b m = elim m [ ]
nodes_to w v (h ∷ q) (along a b) m = ⊎_elim (λ e. rw e (w v h a).1) (λ k. nodes_to w h q b k) (Memᴰ.cases_cons m)

module _ {n : ℕ} {g : Graph} (w : Within n g) {s t : ℕ} (lo : 1 ≤ s) (hi : s ≤ n) where
  path_to : {p : Route} {x : ℕ} → Path g s t p → x ∈ p → x ≤ n
  path_to {p} {x} r m =
      ⊎_elim (λ e. rw e hi) (λ k. nodes_to w s (tail p) (subst (ByArcs g) r.from_start r.by_arcs) k)
      (Memᴰ.cases_cons (subst (λ (l : Route). x ∈ l) r.from_start m))

  path_short : {p : Route} → Path g s t p → length p ≤ n
  path_short r = at_most_nodes w lo hi (of_path r)

module _ {e : ℕ} (net : Net) (ok : Admitted e net) (t : ℕ) where
  abbrev within : Within net.nodes (column net 1)
  within = column_within ok 1

  some_node : 1 ≤ net.nodes
  some_node = omega (arith, ok.nodes_from)

  -- a path that is open in every column is one in the first
  first_path : {p : Route} → OpenPath net 1 t p → Path (column net 1) 1 t p
  first_path q = q.in_column 1 (omega arith) ok.columns_from

  chosen_short : {a : Answer} → Demand3 net 1 1 t 48 a → length (chosen a) ≤ 200
  unfolding chosen
  chosen_short (none empty) = omega arith
  chosen_short (closed s) = omega (arith, path_short within {t = t} (omega arith) some_node (first_path s.is_path), ok.nodes_to)
  chosen_short (unsettled s) = omega (arith, path_short within {t = t} (omega arith) some_node (first_path s.is_path), ok.nodes_to)

  chosen_small : {a : Answer} → Demand3 net 1 1 t 48 a → (x : ℕ) → x ∈ chosen a → x < 1000
  unfolding chosen
  chosen_small (none empty) x m = elim m [ ]
  chosen_small (closed s) x m = omega (arith, path_to within {t = t} (omega arith) some_node (first_path s.is_path) m, ok.nodes_to)
  chosen_small (unsettled s) x m = omega (arith, path_to within {t = t} (omega arith) some_node (first_path s.is_path) m, ok.nodes_to)

-- ---- the slice that the sheet is written to
pub too_short : (room : ℕ) → room < 1024 → sheet_fault room ≡ fault 13 0
unfolding sheet_fault row
too_short room h = rw (lt-ltb room 1024 h)

pub long_enough : (room : ℕ) → 1024 ≤ room → sheet_fault room ≡ sound
unfolding sheet_fault row
long_enough room h = rw (le-ltb room 1024 h)

-- ---- the sheet of an image
-- an image that is refused
pub sheet_refused : (b : List ℕ) {number place : ℕ} → image_fault b ≡ fault number place → refused_line number place ≡ sheet b
unfolding sheet sheet_of program_fault robust_fault robust_rows ranking_rows search_rows ◌then◌
sheet_refused b e = rw e

-- what is printed of an answer that is this refusal
pub decided_refused : (r : Result Decision Refusal) (e : Refusal) (path : List ℕ) → IsErrAnd r (λ x. x ≡ e) → decided_text r path ≡ refused_line (number_of e) (place_of e)
decided_refused (Ok x) e path h = absurd h
decided_refused (Err x) e path h = ap (λ x. refused_line (number_of x) (place_of x)) h

-- an image that is accepted: no slice is too short for it
pub slices_suffice : (b : List ℕ) → image_fault b ≡ sound → (room_row 200 (net_of b).nodes ≡ sound) × (room_row 13848 (workspace (net_of b).nodes 48) ≡ sound)
unfolding room_row row workspace
slices_suffice b ok = let h = (accepted_network b ok).nodes_to in
    (rw (le-ltb 200 (net_of b).nodes h), rw (le-ltb 13848 ((48 + 1) * ((net_of b).nodes + 16) + 16 * (net_of b).nodes + 64) (omega arith)))

module _ (b : List ℕ) (ok : image_fault b ≡ sound) where
  demand : Demand3 (net_of b) 1 1 (net_of b).nodes 48 (program_answer b)
  unfolding program_answer robust_of
  demand = let net = accepted_network b ok in
      demand_3 (net_of b) 1 1 (net_of b).nodes net (omega arith) (some_node (net_of b) net 0) (omega arith) net.columns_from 48 (omega arith)

  module _ {n : ℕ} (r : Result Decision Refusal) (path path₀ work₀ : List ℕ) (same : n ≡ (net_of b).nodes) (room : length path₀ ≡ 200) (space : length work₀ ≡ 13848) (answer : image.answer decision_list r ≡ robust_outcome b 1 1 n 48 (length path₀) (length work₀)) (held : path ≡ after (robust_fault b 1 1 n 48 (length path₀) (length work₀)) (chosen (robust_of b 1 1 n 48)) path₀) where
    rows : robust_fault b 1 1 n 48 (length path₀) (length work₀) ≡ program_fault b
    unfolding program_fault
    rows = rw (same, room, space)

    choice : robust_of b 1 1 n 48 ≡ program_answer b
    unfolding program_answer
    choice = rw same

    answer' : image.answer decision_list r ≡ outcome (program_fault b) (robust_values (program_answer b))
    unfolding robust_outcome
    answer' = answer ∙ ap (λ (f : Fault). outcome f (robust_values (robust_of b 1 1 n 48))) rows ∙ ap (λ (a : Answer). outcome (program_fault b) (robust_values a)) choice

    held' : path ≡ after (program_fault b) (chosen (program_answer b)) path₀
    held' = held ∙ ap (λ (f : Fault). after f (chosen (robust_of b 1 1 n 48)) path₀) rows ∙ ap (λ (a : Answer). after (program_fault b) (chosen a) path₀) choice

    pub sheet_told : decided_text r path ≡ sheet b
    unfolding sheet
    sheet_told = told (program_fault b) (program_answer b) path₀ held' r answer'

    pub sheet_printable : length path ≡ 200 → Printable path (nodes_of r)
    sheet_printable long =
        printable (program_fault b) (program_answer b) path₀ held' long (chosen_short (net_of b) (accepted_network b ok) (net_of b).nodes demand) (chosen_small (net_of b) (accepted_network b ok) (net_of b).nodes demand) r answer'

-- the text that was written lies in the slice
pub sheet_fits : (b text : List ℕ) {text' : List ℕ} {n : ℕ} → gives (n ∷ []) ≡ sheet_outcome b (length text) → text' ≡ after (sheet_fault (length text)) (sheet b) text → n ≤ length text'
unfolding sheet_outcome
sheet_fits b text {text'} {n} e held =
    let g = gives_sound (sheet_fault (length text)) (length (sheet b) ∷ []) e in
    let same : n ≡ length (sheet b) = cc g.1 in
    omega (arith, ap length (held ∙ after_sound (sheet b) text g.0), length-append (sheet b) (drop (length (sheet b)) text))
