-- Unpack: row 13, and the lists that are written. Assumes nothing.
use Prim.Native.Nat.{ℕ, ◌+◌, ◌*◌, ◌≤◌, ◌<◌}
use native.Mathlib.Omega.{arith}
use mathlib.Core.Path.{◌≡◌}
use mathlib.Core.List.{List, ◌++◌}
use lib.Dec.{ltb}
use lib.ListN.{length, drop}
use borrow.Author.Tests.{lt-ltb, le-ltb}
use Rattle.terms.proofs.ListLaws.{or_right}
use Rattle.image.specs.Bytes.{decode}
use Rattle.image.specs.Outcome.{sound, fault, row, gives, after}
use Rattle.image.specs.Layout.{arc_count, column_count, costs_start, nodes_in, costs_in, node_list, cost_list}
use Rattle.image.specs.Calls.{image_fault, check_outcome}
use Rattle.image.specs.Answers.{size_list}
use Rattle.image.specs.declared.check.Sizes.{Sizes}
use Rattle.packing.specs.Calls.{unpack_fault}
use Rattle.image.proofs.OutcomeLaws.{then_next, after_sound}
use Rattle.image.proofs.ByteLaws.{length_decode}
use Rattle.image.proofs.CheckLaws.{Sized, accepted, accepted_header, bounds, total_is, costs_start_is}

-- what sizes that Check gives say of the image
pub record Unpackable (b : List ℕ) (z : Sizes) : Type 0 where
  pub passes : image_fault b ≡ sound
  pub sizes : Sized b z.n z.m z.k z.edition
  pub arcs_to : z.m ≤ 1000
  pub columns_to : z.k ≤ 8
  pub long : length b ≡ 24 + 4 * z.m + 4 * (z.m * z.k)

pub unpackable : {b : List ℕ} {z : Sizes} → gives (size_list z) ≡ check_outcome b → Unpackable b z
unpackable {b} {z} e =
    let a = accepted b e in
    let r = bounds 2 b _ _ _ _ (accepted_header b a.0) a.1 in
    record { passes = a.0; sizes = a.1; arcs_to = r.0; columns_to = r.1; long = omega (arith, r.2, total_is z.m z.k, costs_start_is z.m) }

module _ {b : List ℕ} {z : Sizes} (u : Unpackable b z) (nodes-room costs-room : ℕ) where
  m_is : z.m ≡ arc_count b
  m_is = u.sizes.m_is

  k_is : z.k ≡ column_count b
  k_is = u.sizes.k_is

  pub short_nodes : nodes-room < 2 * z.m → unpack_fault b nodes-room costs-room ≡ fault 13 0
  unfolding unpack_fault row
  short_nodes h = rw (← m_is, ← k_is, then_next _ u.passes, lt-ltb _ _ h)

  pub short_costs : costs-room < z.m * z.k → unpack_fault b nodes-room costs-room ≡ fault 13 0
  unfolding unpack_fault row
  short_costs h = rw (← m_is, ← k_is, then_next _ u.passes, or_right (ltb nodes-room (2 * z.m)) (lt-ltb _ _ h))

  pub room : 2 * z.m ≤ nodes-room → z.m * z.k ≤ costs-room → unpack_fault b nodes-room costs-room ≡ sound
  unfolding unpack_fault row
  room h h' = rw (← m_is, ← k_is, then_next _ u.passes, le-ltb _ _ h, le-ltb _ _ h')

  -- what is written, where there is room
  pub nodes_after : (old : List ℕ) → unpack_fault b nodes-room costs-room ≡ sound
      → decode 2 (2 * z.m) (drop 24 b) ++ drop (2 * z.m) old ≡ after (unpack_fault b nodes-room costs-room) (node_list b) old
  unfolding node_list nodes_in
  nodes_after old h = rw (after_sound (node_list b) old h, length_decode 2 (2 * arc_count b) (drop 24 b), ← m_is)

  pub costs_after : (old : List ℕ) → unpack_fault b nodes-room costs-room ≡ sound
      → decode 4 (z.m * z.k) (drop (costs_start z.m) b) ++ drop (z.m * z.k) old ≡ after (unpack_fault b nodes-room costs-room) (cost_list b) old
  unfolding cost_list costs_in
  costs_after old h = rw (after_sound (cost_list b) old h, length_decode 4 (arc_count b * column_count b) (drop (costs_start (arc_count b)) b), ← m_is, ← k_is)
