-- docs/REFERENCE.md, section 4.10: what holds of an image after a list of records. Assumes nothing.
use Rattle.std.specs.Prelude.{ℕ, ◌+◌, ◌*◌, ◌-◌, ◌≤◌, ◌<◌, ◌≡◌, true, false, List, [], ◌∷◌, ◌++◌, length, get_or}
use Rattle.std.proofs.Math.Option.{Option, none, some}
use Rattle.terms.specs.Lists.{◌∈◌}
use Rattle.image.specs.Outcome.{sound}
use Rattle.image.specs.Layout.{edition, node_count, arc_count, column_count, node_list, cost_list}
use Rattle.image.specs.Calls.{image_fault}
use Rattle.record_calls.specs.Records.{Record, is_about, winner, cost_after, image_after}

-- ---- winning records
-- record r wins in a list of those before it and those behind it
pub record Wins (arc column : ℕ) (before : List Record) (r : Record) (behind : List Record) : Type 0 where
  pub about : is_about arc column r ≡ true
  pub no_less : (s : Record) → s ∈ before → is_about arc column s ≡ true → s.stamp ≤ r.stamp
  pub greater : (s : Record) → s ∈ behind → is_about arc column s ≡ true → s.stamp < r.stamp

-- `winner` is the record that wins, and none if no record is about the arc and the column
pub record Winning (arc column : ℕ) (l : List Record) : Type 0 where
  pub none_about : winner arc column l ≡ none → (r : Record) → r ∈ l → is_about arc column r ≡ false
  pub one_wins : (r : Record) → winner arc column l ≡ some r → (before : List Record) × (behind : List Record) × (l ≡ before ++ (r ∷ behind)) × Wins arc column before r behind

-- two lists whose winning records agree: for each arc and column both have one with the same cost, or neither has
unfoldable pub told : Option Record → List ℕ
told none = []
told (some r) = r.cost ∷ []

abbrev pub Agree : List Record → List Record → Type 0
Agree l r = (arc column : ℕ) → told (winner arc column l) ≡ told (winner arc column r)

-- ---- an accepted image after an accepted list
-- where column u, from 1, gives an arc its cost (REFERENCE, section 2.4)
abbrev pub cost_place : ℕ → ℕ → ℕ → ℕ
cost_place m arc u = (u - 1) * m + arc

pub record Updates (b : List ℕ) (records : List Record) : Type 0 where
  pub again : image_fault (image_after b records) ≡ sound
  pub same_length : length (image_after b records) ≡ length b
  pub same_edition : edition (image_after b records) ≡ edition b
  pub same_nodes : node_count (image_after b records) ≡ node_count b
  pub same_arc_count : arc_count (image_after b records) ≡ arc_count b
  pub same_columns : column_count (image_after b records) ≡ column_count b
  pub same_arcs : node_list (image_after b records) ≡ node_list b
  pub costs_told : (arc u : ℕ) → arc < arc_count b → 1 ≤ u → u ≤ column_count b → get_or (cost_list (image_after b records)) (cost_place (arc_count b) arc u) 0 ≡ cost_after (winner arc u records) (get_or (cost_list b) (cost_place (arc_count b) arc u) 0)
  pub untouched : (arc u : ℕ) → arc < arc_count b → 1 ≤ u → u ≤ column_count b → ((r : Record) → r ∈ records → is_about arc u r ≡ false) → get_or (cost_list (image_after b records)) (cost_place (arc_count b) arc u) 0 ≡ get_or (cost_list b) (cost_place (arc_count b) arc u) 0
  pub winning : (arc u : ℕ) → Winning arc u records
  pub agreed : (others : List Record) → Agree records others → image_after b records ≡ image_after b others
