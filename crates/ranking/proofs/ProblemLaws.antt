-- Parts of local arrays have places for all nodes, of which there are at most 200. Assumes nothing.
use Prim.Native.Nat.{ℕ, ◌+◌, ◌≤◌}
use native.Mathlib.Omega.{arith}
use mathlib.Core.Bool.{false}
use lib.ListN.{take, replicate}
use Rattle.terms.proofs.RoomLaws.{part_long}
use Rattle.star.proofs.Stores.{flags_long, flags_clear}
use Rattle.ranking.specs.Ranking.{Blank}

-- flags and a path in arrays that were just made
pub blank_parts : {n : ℕ} → n ≤ 200 → Blank n (take (n + 1) (replicate 201 false)) (take (n + 1) (replicate 201 false)) (take n (replicate 200 0))
blank_parts {n} h =
    let k = flags_long 201 (n + 1) (omega arith) in
    record {
      idle = record { barred_long = k; none_used = flags_clear 201 (n + 1); none_barred = flags_clear 201 (n + 1) };
      used_long = k;
      path_long = omega (arith, part_long 200 n h);
    }
