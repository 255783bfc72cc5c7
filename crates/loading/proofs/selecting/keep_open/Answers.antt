-- `selecting::keep_open`: the column lies inside the image, and its costs are those that are tested. Assumes nothing.
use Prim.Native.Nat.{◌+◌, ◌*◌, ◌≤◌}
use native.Mathlib.Omega.{arith}
use mathlib.Core.Path.{◌∙◌, ap}
use lib.ListN.{length}
use Rattle.terms.specs.Lists.{keep}
use Rattle.terms.specs.Network.{open_in}
use Rattle.loading.specs.Selected.{unmarked_at}
use Rattle.loading.proofs.DecodeLaws.{few_arcs, column_few, column_lies, column_bytes, column_read}
use Rattle.loading.proofs.selecting.keep_open.Goals as goal

pub column_start-start-requires : goal.column_start-start-requires
column_start-start-requires c = column_few c.args.network.now.accepted c.requires.column

pub drop_marked-requires : goal.drop_marked-requires
drop_marked-requires c =
    record { costs_long = omega (arith, column_bytes c.args.network.now.accepted c.requires.column c.column_start-start.ensures); few_costs = few_arcs c.args.network.now.accepted; indices = c.requires.indices }

pub returns : goal.returns
unfolding open_in
returns c = (c.drop_marked.ensures.0, c.drop_marked.ensures.1 ∙ ap (λ l. keep (unmarked_at l) c.args.kept.now) (column_read c.args.network.now.accepted c.requires.column c.column_start-start.ensures))

pub overflow_add-start : goal.overflow_add-start
overflow_add-start c =
    let inside : (c.column_start-start.result + 4 * c.args.network.now.sizes.m ≤ length c.args.network.now.image.now) × (length c.args.network.now.image.now ≤ 36024) = column_lies c.args.network.now.accepted c.requires.column c.column_start-start.ensures in
    omega (arith, inside)

pub slice_bounds-drop_marked-end : goal.slice_bounds-drop_marked-end
slice_bounds-drop_marked-end c =
    let inside : (c.column_start-start.result + 4 * c.args.network.now.sizes.m ≤ length c.args.network.now.image.now) × (length c.args.network.now.image.now ≤ 36024) = column_lies c.args.network.now.accepted c.requires.column c.column_start-start.ensures in
    omega (arith, inside)
