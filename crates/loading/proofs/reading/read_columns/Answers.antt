-- `reading::read_columns` reads column by column. The loop: the costs of the first u columns are read. Assumes nothing.
use Prim.Native.Nat.{ℕ, ◌+◌, ◌-◌, ◌*◌, ◌≤◌, ◌<◌}
use native.Mathlib.Omega.{arith}
use native.Mathlib.Nat.{mul_comm, mul-le-mul}
use mathlib.Core.Path.{◌≡◌, refl, sym, ◌∙◌, ap}
use mathlib.Core.List.{List, [], ◌++◌}
use lib.ListN.{length, get_or, take, drop}
use lib.Seq.{take_all}
use borrow.Rule.Slice.PartMut.{mid_len, same_len_mid}
use Rattle.terms.specs.Network.{cost_column}
use Rattle.image.specs.Layout.{net_of}
use Rattle.loading.specs.Selected.{at_places, selected, in_a_row}
use Rattle.loading.proofs.RowLaws.{row_length, row_part}
use Rattle.loading.proofs.SelectLaws.{indices_few, selected_count, selected_full, selected_column}
use Rattle.loading.proofs.PartLaws.{column_fits, none_put, column_put}
use Rattle.loading.proofs.DecodeLaws.{whole, few_arcs, few_columns}
use Rattle.loading.proofs.reading.read_columns.Goals as goal

pub loop-u-init : goal.loop-u-init
loop-u-init c = (omega arith, refl, none_put (length c.args.kept.now) (in_a_row (selected c.args.kept.now (net_of c.args.network.now.image.now)).columns) c.args.costs.now)

pub read_column-requires : goal.read_column-requires
read_column-requires c =
    let fits : (c.loop-u.u * length c.args.kept.now + length c.args.kept.now ≤ length c.args.costs.now) × (length c.args.costs.now ≤ 8000) × (c.args.network.now.sizes.k ≤ 8) = let m = length c.args.kept.now in let few : m ≤ 1000 = omega (arith, indices_few c.requires.indices, few_arcs c.args.network.now.accepted) in (omega (arith, c.requires.costs_len, column_fits m c.args.network.now.sizes.k c.loop-u.u c.loop-u-test.true), omega (arith, c.requires.costs_len, mul-le-mul few (few_columns c.args.network.now.accepted)), few_columns c.args.network.now.accepted) in
    let part_long : let m = length c.args.kept.now in let from = c.loop-u.u * m in length (take (from + m - from) (drop from c.loop-u.costs)) ≡ m = let m = length c.args.kept.now in let from = c.loop-u.u * m in mid_len from (from + m) c.loop-u.costs (omega (arith, fits, c.loop-u.invariant.1)) ∙ omega arith in
    record { column = record { from = omega arith; upto = omega (arith, c.args.network.now.accepted.columns_are, c.loop-u-test.true) }; indices = c.requires.indices; weights_len = part_long }

pub loop-u-preserved : goal.loop-u-preserved
unfolding cost_column
loop-u-preserved c =
    let fits : (c.loop-u.u * length c.args.kept.now + length c.args.kept.now ≤ length c.args.costs.now) × (length c.args.costs.now ≤ 8000) × (c.args.network.now.sizes.k ≤ 8) = let m = length c.args.kept.now in let few : m ≤ 1000 = omega (arith, indices_few c.requires.indices, few_arcs c.args.network.now.accepted) in (omega (arith, c.requires.costs_len, column_fits m c.args.network.now.sizes.k c.loop-u.u c.loop-u-test.true), omega (arith, c.requires.costs_len, mul-le-mul few (few_columns c.args.network.now.accepted)), few_columns c.args.network.now.accepted) in
    let m = length c.args.kept.now in
    let net = net_of c.args.network.now.image.now in
    let cols = (selected c.args.kept.now net).columns in
    let at : c.loop-u.u + 1 - 1 ≡ c.loop-u.u = omega arith in
    let inside : c.loop-u.u < length net.columns = omega (arith, c.args.network.now.accepted.columns_are, c.loop-u-test.true) in
    let full = selected_full c.args.kept.now net in
    let count = selected_count c.args.kept.now net in
    let new = c.read_column.ensures ∙ ap (λ i. at_places c.args.kept.now (get_or net.columns i [])) at ∙ sym (selected_column c.args.kept.now net c.loop-u.u inside) ∙ sym (row_part m cols full c.loop-u.u (omega (arith, count))) in
    let long : c.loop-u.u * m + m ≤ length (in_a_row cols) = omega (arith, row_length m cols full, count, c.args.network.now.accepted.columns_are, fits, c.requires.costs_len, mul_comm m c.args.network.now.sizes.k, ap (λ (x : ℕ). x * m) (count ∙ sym c.args.network.now.accepted.columns_are)) in
    (omega arith, same_len_mid (c.loop-u.u * m) (c.loop-u.u * m + m - c.loop-u.u * m) c.loop-u.costs c.read_column.new.weights c.read_column.auto.weights ∙ c.loop-u.invariant.1, column_put m (in_a_row cols) c.args.costs.now c.loop-u.costs c.read_column.new.weights c.loop-u.u long c.loop-u.invariant.2 new)

pub returns : goal.returns
returns c =
    let m = length c.args.kept.now in
    let net = net_of c.args.network.now.image.now in
    let cols = (selected c.args.kept.now net).columns in
    let done : c.loop-u.u ≡ c.args.network.now.sizes.k = omega arith in
    let all : c.loop-u.u * m ≡ m * c.args.network.now.sizes.k = ap (λ u. u * m) done ∙ mul_comm c.args.network.now.sizes.k m in
    let long : length (in_a_row cols) ≡ c.loop-u.u * m = row_length m cols (selected_full c.args.kept.now net) ∙ ap (λ (x : ℕ). x * m) (selected_count c.args.kept.now net ∙ sym c.args.network.now.accepted.columns_are ∙ sym done) in
    c.loop-u.invariant.2 ∙ ap (λ (x : List ℕ). x ++ drop (c.loop-u.u * m) c.args.costs.now) (take_all (c.loop-u.u * m) (in_a_row cols) (omega (arith, long))) ∙ whole (in_a_row cols) c.args.costs.now {m = c.loop-u.u * m} (c.requires.costs_len ∙ sym all)
