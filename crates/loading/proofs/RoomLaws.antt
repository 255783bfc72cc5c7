-- Local arrays have room for the columns of an accepted image. Assumes nothing.
use Prim.Native.Nat.{◌+◌, ◌*◌, ◌≤◌, ℕ}
use native.Mathlib.Omega.{arith}
use native.Mathlib.Nat.{mul-le-mul}
use mathlib.Core.List.{List}
use lib.ListN.{length, take, replicate}
use Rattle.terms.proofs.RoomLaws.{part_long}
use Rattle.image.specs.declared.check.Sizes.{Sizes}
use Rattle.loading.specs.Accepted.{Accepted}
use Rattle.loading.specs.Selected.{Indices}
use Rattle.loading.specs.Loaded.{star_size, Room}
use Rattle.loading.proofs.SelectLaws.{indices_few}
use Rattle.loading.proofs.DecodeLaws.{few_arcs, few_nodes, few_columns}

module _ {b : List ℕ} {z : Sizes} (a : Accepted b z) where
  pub places_fit : z.n + 1 ≤ 201
  places_fit = omega (arith, few_nodes a)

  pub starts_fit : z.n + 1 + 1 ≤ 202
  starts_fit = omega (arith, few_nodes a)

  pub kept_fit : {ks : List ℕ} → Indices z.m ks → length ks ≤ 1000
  kept_fit i = omega (arith, indices_few i, few_arcs a)

  pub star_fits : star_size z.n z.m ≤ 3403
  star_fits = omega (arith, few_nodes a, few_arcs a)

  pub local_room : Room z.n z.m (take (star_size z.n z.m) (replicate 3403 0)) (take z.m (replicate 1000 0)) (take (z.n + 1) (replicate 201 0))
  local_room = record { star_long = part_long 3403 _ star_fits; weights_long = part_long 1000 _ (few_arcs a); labels_long = part_long 201 _ places_fit }

  pub all_fit : z.m * z.k ≤ 8000
  all_fit = mul-le-mul (few_arcs a) (few_columns a)
