-- The rows that calls share, one after another, for an accepted image. Assumes nothing.
-- ---- rows
use Prim.Native.Nat.{ℕ, ◌≤◌, ◌<◌}
use native.Mathlib.Omega.{arith}
use mathlib.Core.Path.{◌≡◌, ◌∙◌, ap}
use mathlib.Core.Bool.{Bool, true, false, not, ◌&&◌, ◌||◌}
use mathlib.Core.List.{List}
use lib.Dec.{leb, eqb}
use lib.ListN.{length}
use borrow.Author.Tests.{lt-ltb, le-ltb, leb-true, ltb-false, eqb-false, not-false}
use Rattle.terms.specs.Network.{Net}
use Rattle.terms.proofs.ListLaws.{and_both, or_false}
use Rattle.image.specs.Outcome.{Fault, sound, fault, row, ◌then◌, gives, outcome}
use Rattle.image.specs.Rows.{is_node}
use Rattle.image.specs.Layout.{net_of}
use Rattle.image.specs.Calls.{image_fault, sizes, check_outcome}
use Rattle.image.specs.Answers.{size_list}
use Rattle.image.specs.declared.check.Sizes.{Sizes}
use Rattle.image.proofs.OutcomeLaws.{then_next, then_sound, row_sound, gives_sound}
use Rattle.image.proofs.CheckLaws.{sized, same_sizes}
use Rattle.loading.proofs.PartLaws.{length_arcs}
use Rattle.loading.proofs.DecodeLaws.{accepted_of, admitted}
use Rattle.image.proofs.NetworkLaws.{length_columns}
use Rattle.outcomes.specs.Calls.{ends_row, goal_row, column_row, room_row, count_row, workspace, search_rows, ranking_rows, label_fault}
use Rattle.loading.specs.Accepted.{Accepted, Node, InColumn, Ends}

-- ---- what an answer that gives sizes says: the rows so far are sound, the image is accepted, and these are its sizes
pub given_sizes : {b : List ℕ} (f : Fault) {z : Sizes} → (f ≡ sound → image_fault b ≡ sound) → gives (size_list z) ≡ outcome f (sizes b) → (f ≡ sound) × Accepted b z
given_sizes {b} f first e = let g = gives_sound f (sizes b) e in (g.0, accepted_of (first g.0) (sized b g.1))

pub given_network : {b : List ℕ} {z : Sizes} → gives (size_list z) ≡ check_outcome b → Accepted b z
unfolding check_outcome
given_network {b} e = (given_sizes (image_fault b) (λ ok. ok) e).1

module _ {b : List ℕ} {z : Sizes} (a : Accepted b z) where
  pub sizes_of : size_list z ≡ sizes b
  unfolding net_of
  sizes_of = same_sizes b (record { n_is = a.nodes_are; m_is = a.arcs_are ∙ length_arcs b a.passes; k_is = a.columns_are ∙ length_columns b; e_is = a.edition_is })

  pub node_bounds : (1 ≤ z.n) × (z.n ≤ 200)
  node_bounds = (omega (arith, a.nodes_are, (admitted a).nodes_from), omega (arith, a.nodes_are, (admitted a).nodes_to))

  pub column_bounds : (1 ≤ z.k) × (z.k ≤ 8)
  column_bounds = (omega (arith, a.columns_are, (admitted a).columns_from), omega (arith, a.columns_are, (admitted a).columns_to))

  pub in_column : {u : ℕ} → 1 ≤ u → u ≤ z.k → InColumn b u
  in_column from upto = record { from = from; upto = omega (arith, a.columns_are) }

-- ---- nodes and columns
pub node_true : {n v : ℕ} → is_node n v ≡ true → Node n v
unfolding is_node
node_true {n} {v} e = let f = and_both (leb 1 v) (leb v n) e in record { from = leb-true _ _ f.0; upto = leb-true _ _ f.1 }

-- a test that is refused where it fails
not_both : (p q : Bool) {v : Bool} → (p && not q) ≡ v → (not p || q) ≡ not v
not_both true true e = ap not e
not_both true false e = ap not e
not_both false q e = ap not e

-- ---- row 10, for a start and a goal
module _ {b : List ℕ} {z : Sizes} (a : Accepted b z) (s t : ℕ) where
  pub wrong_ends : (is_node z.n s && is_node z.n t && not (eqb s t)) ≡ false → (image_fault b then ends_row (net_of b) s t) ≡ fault 10 0
  unfolding ends_row row
  wrong_ends e = rw (then_next _ a.passes, ← a.nodes_are, not_both _ (eqb s t) e)

  pub right_ends : (is_node z.n s && is_node z.n t && not (eqb s t)) ≡ true → (image_fault b then ends_row (net_of b) s t) ≡ sound
  unfolding ends_row row
  right_ends e = rw (then_next _ a.passes, ← a.nodes_are, not_both _ (eqb s t) e)

-- and back: both ends are nodes, and differ
pub ends_sound : (net : Net) (s t : ℕ) → ends_row net s t ≡ sound → Ends net.nodes s t
unfolding ends_row
ends_sound net s t e =
    let f = or_false (not (is_node net.nodes s && is_node net.nodes t)) (eqb s t) (row_sound _ _ _ e) in
    let g = and_both (is_node net.nodes s) (is_node net.nodes t) (not-false _ f.0) in
    record { start_in = node_true g.0; goal_in = node_true g.1; apart = eqb-false s t f.1 }

-- ---- rows 11 to 13, each by itself
module _ {b : List ℕ} {z : Sizes} (a : Accepted b z) (u : ℕ) where
  pub wrong_column : (leb 1 u && leb u z.k) ≡ false → column_row (net_of b) u ≡ fault 11 0
  unfolding column_row row
  wrong_column h = rw (← a.columns_are, h)

  pub right_column : (leb 1 u && leb u z.k) ≡ true → column_row (net_of b) u ≡ sound
  unfolding column_row row
  right_column h = rw (← a.columns_are, h)

pub wrong_count : (K : ℕ) → (leb 1 K && leb K 256) ≡ false → count_row K ≡ fault 12 0
unfolding count_row row
wrong_count K e = rw e

pub right_count : (K : ℕ) → (leb 1 K && leb K 256) ≡ true → count_row K ≡ sound
unfolding count_row row
right_count K e = rw e

pub count_to : {K : ℕ} → (leb 1 K && leb K 256) ≡ true → K ≤ 256
count_to {K} e = leb-true _ _ (and_both (leb 1 K) (leb K 256) e).1

pub counted : (K : ℕ) → count_row K ≡ sound → (1 ≤ K) × (K ≤ 256)
unfolding count_row
counted K e = let c = and_both (leb 1 K) (leb K 256) (not-false _ (row_sound _ _ _ e)) in (leb-true _ _ c.0, leb-true _ _ c.1)

pub too_short : (room need : ℕ) → room < need → room_row room need ≡ fault 13 0
unfolding room_row row
too_short room need h = rw (lt-ltb room need h)

pub long_enough : (room need : ℕ) → need ≤ room → room_row room need ≡ sound
unfolding room_row row
long_enough room need h = rw (le-ltb room need h)

pub roomy : (room need : ℕ) → room_row room need ≡ sound → need ≤ room
unfolding room_row
roomy room need e = ltb-false _ _ (row_sound _ _ _ e)

-- what the rows before 12 say where none of them applies
pub record SearchSound (b : List ℕ) (u s t : ℕ) : Type 0 where
  pub accepted : image_fault b ≡ sound
  pub ends : Ends (net_of b).nodes s t
  pub from : 1 ≤ u
  pub upto : u ≤ length (net_of b).columns

pub search_sound : (b : List ℕ) (u s t : ℕ) → search_rows b u s t ≡ sound → SearchSound b u s t
unfolding search_rows column_row
search_sound b u s t e =
    let e₁ = then_sound _ _ e in
    let e₂ = then_sound _ _ e₁.0 in
    let c = and_both (leb 1 u) (leb u (length (net_of b).columns)) (not-false _ (row_sound _ _ _ e₁.1)) in
    record { accepted = e₂.0; ends = ends_sound _ _ _ e₂.1; from = leb-true _ _ c.0; upto = leb-true _ _ c.1 }

-- what the rows of Rank and Robust say where none up to the workspace's applies
pub record RankingSound (b : List ℕ) (u s t K work : ℕ) : Type 0 where
  pub search : SearchSound b u s t
  pub wanted_from : 1 ≤ K
  pub wanted_to : K ≤ 256
  pub work_long : workspace (net_of b).nodes K ≤ work

pub ranking_sound : (b : List ℕ) (u s t K work : ℕ) → ranking_rows b u s t K work ≡ sound → RankingSound b u s t K work
unfolding ranking_rows
ranking_sound b u s t K work e =
    let e₁ = then_sound _ _ e in
    let e₂ = then_sound _ _ e₁.1 in
    let k = counted K e₂.0 in
    record { search = search_sound b u s t e₁.0; wanted_from = k.0; wanted_to = k.1; work_long = roomy _ _ e₂.1 }

-- ---- Label
module _ {b : List ℕ} {z : Sizes} (a : Accepted b z) (u t room : ℕ) where
  pub no_goal : is_node z.n t ≡ false → label_fault b u t room ≡ fault 10 0
  unfolding label_fault goal_row row ◌then◌
  no_goal e = rw (then_next _ a.passes, ← a.nodes_are, e)

  module _ (goal : is_node z.n t ≡ true) where
    pub no_column : (leb 1 u && leb u z.k) ≡ false → label_fault b u t room ≡ fault 11 0
    unfolding label_fault goal_row column_row row ◌then◌
    no_column e = rw (then_next _ a.passes, ← a.nodes_are, goal, ← a.columns_are, e)

    module _ (in_range : (leb 1 u && leb u z.k) ≡ true) where
      pub no_room : room < z.n → label_fault b u t room ≡ fault 13 0
      unfolding label_fault goal_row column_row room_row row ◌then◌
      no_room h = rw (then_next _ a.passes, ← a.nodes_are, goal, ← a.columns_are, in_range, lt-ltb room z.n h)

      pub label_passes : z.n ≤ room → label_fault b u t room ≡ sound
      unfolding label_fault goal_row column_row room_row row ◌then◌
      label_passes h = rw (then_next _ a.passes, ← a.nodes_are, goal, ← a.columns_are, in_range, le-ltb room z.n h)

-- what Label is given where no row applies
pub record LabelSound (b : List ℕ) (u t room : ℕ) : Type 0 where
  pub accepted : image_fault b ≡ sound
  pub goal : Node (net_of b).nodes t
  pub from : 1 ≤ u
  pub upto : u ≤ length (net_of b).columns
  pub room_for : (net_of b).nodes ≤ room

pub label_sound : (b : List ℕ) (u t room : ℕ) → label_fault b u t room ≡ sound → LabelSound b u t room
unfolding label_fault goal_row column_row room_row
label_sound b u t room e =
    let e₁ = then_sound _ _ e in
    let e₂ = then_sound _ _ e₁.1 in
    let e₃ = then_sound _ _ e₂.1 in
    let c = and_both (leb 1 u) (leb u (length (net_of b).columns)) (not-false _ (row_sound _ _ _ e₃.0)) in
    record { accepted = e₁.0; goal = node_true (not-false _ (row_sound _ _ _ e₂.0)); from = leb-true _ _ c.0; upto = leb-true _ _ c.1; room_for = ltb-false _ _ (row_sound _ _ _ e₃.1) }
