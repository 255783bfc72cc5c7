-- `reading::column_start`: the columns before u are small. Assumes nothing.
use Prim.Native.Nat.{◌*◌, ◌-◌, ◌≤◌}
use native.Mathlib.Omega.{arith}
use native.Mathlib.Nat.{mul-le-mul}
use Rattle.image.proofs.CheckLaws.{costs_start_is}
use Rattle.loading.proofs.reading.column_start.Goals as goal

pub overflow_add-result : goal.overflow_add-result
overflow_add-result c =
    let small : ((c.args.u - 1) * c.args.m ≤ 8000) × (c.args.m ≤ 1000) = let few : c.args.u - 1 ≤ 8 = omega (arith, c.requires.2) in (mul-le-mul few c.requires.0, c.requires.0) in
    omega (arith, small, c.costs_start.ensures, costs_start_is c.args.m)
