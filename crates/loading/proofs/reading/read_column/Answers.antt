-- `reading::read_column`: the column lies inside the image. Assumes nothing.
use Prim.Native.Nat.{◌+◌, ◌*◌, ◌≤◌}
use native.Mathlib.Omega.{arith}
use mathlib.Core.Path.{◌∙◌, ap}
use lib.ListN.{length}
use Rattle.loading.specs.Selected.{at_places}
use Rattle.loading.proofs.DecodeLaws.{few_arcs, column_few, column_lies, column_bytes, column_read}
use Rattle.loading.proofs.reading.read_column.Goals as goal

pub column_start-start-requires : goal.column_start-start-requires
column_start-start-requires c = column_few c.args.network.now.accepted c.requires.column

pub copy_costs-requires : goal.copy_costs-requires
copy_costs-requires c = (omega (arith, column_bytes c.args.network.now.accepted c.requires.column c.column_start-start.ensures), few_arcs c.args.network.now.accepted, c.requires.indices, c.requires.weights_len)

pub returns : goal.returns
returns c = c.copy_costs.ensures ∙ ap (at_places c.args.kept.now) (column_read c.args.network.now.accepted c.requires.column c.column_start-start.ensures)

pub overflow_add-start : goal.overflow_add-start
overflow_add-start c =
    let inside : (c.column_start-start.result + 4 * c.args.network.now.sizes.m ≤ length c.args.network.now.image.now) × (length c.args.network.now.image.now ≤ 36024) = column_lies c.args.network.now.accepted c.requires.column c.column_start-start.ensures in
    omega (arith, inside)

pub slice_bounds-copy_costs-end : goal.slice_bounds-copy_costs-end
slice_bounds-copy_costs-end c =
    let inside : (c.column_start-start.result + 4 * c.args.network.now.sizes.m ≤ length c.args.network.now.image.now) × (length c.args.network.now.image.now ≤ 36024) = column_lies c.args.network.now.accepted c.requires.column c.column_start-start.ensures in
    omega (arith, inside)
