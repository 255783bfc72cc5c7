-- `selecting::select_common`: of the indices that the map leaves, those of the arcs that are open in the columns 1 to u. Assumes nothing.
use Prim.Native.Nat.{◌+◌}
use native.Mathlib.Omega.{arith}
use mathlib.Core.Path.{◌≡◌, refl, sym, ◌∙◌, ap, subst}
use lib.ListN.{length, take}
use lib.Seq.{length-take-le}
use borrow.Rule.Slice.PartMut.{same_len_mid}
use Rattle.terms.specs.Lists.{keep, numbers}
use Rattle.terms.specs.Network.{open_in, open_everywhere, Admitted}
use Rattle.terms.proofs.ListLaws.{keep_keep}
use Rattle.image.specs.Layout.{net_of}
use Rattle.closures.specs.Map.{left}
use Rattle.loading.specs.Selected.{passing}
use Rattle.loading.proofs.SelectLaws.{open_upto, none_closed, one_column_more, open_in_all, first_edition_common, indices_of, take_lent}
use Rattle.loading.proofs.DecodeLaws.{admitted, few_arcs}
use Rattle.loading.proofs.selecting.select_common.Goals as goal

pub select_left-count-requires : goal.select_left-count-requires
select_left-count-requires c = omega (arith, c.requires, few_arcs c.args.network.now.accepted)

pub returns-then-network-eq1 : goal.returns-then-network-eq1
returns-then-network-eq1 c =
    let all : take c.select_left-count.result c.select_left-count.new.kept ≡ passing (left c.args.closed.now) c.args.network.now.sizes.m = c.select_left-count.ensures.1 ∙ ap (passing (left c.args.closed.now)) c.requires in
    let net = net_of c.args.network.now.image.now in
    let edition-1 = subst (λ e. Admitted e net) (sym c.args.network.now.accepted.edition_is ∙ c.if-network-eq1.true) (admitted c.args.network.now.accepted) in
    (omega (arith, c.select_left-count.ensures.0, c.requires), all ∙ first_edition_common edition-1 _ ∙ keep_keep (left c.args.closed.now) (open_everywhere net) (numbers 0 c.args.network.now.sizes.m))

pub returns : goal.returns
returns c =
    let done : c.loop-u.u ≡ c.args.network.now.sizes.k = omega arith in
    (c.loop-u.invariant.1, c.loop-u.invariant.3 ∙ open_in_all (admitted c.args.network.now.accepted) _ (done ∙ c.args.network.now.accepted.columns_are) ∙ keep_keep (left c.args.closed.now) (open_everywhere (net_of c.args.network.now.image.now)) (numbers 0 c.args.network.now.sizes.m))

pub loop-u-init : goal.loop-u-init
loop-u-init c =
    let all : take c.select_left-count.result c.select_left-count.new.kept ≡ passing (left c.args.closed.now) c.args.network.now.sizes.m = c.select_left-count.ensures.1 ∙ ap (passing (left c.args.closed.now)) c.requires in
    (omega arith, omega (arith, c.select_left-count.ensures.0, c.requires), refl, all ∙ none_closed (net_of c.args.network.now.image.now) _)

pub loop-u-preserved : goal.loop-u-preserved
loop-u-preserved c =
    let lent : length (take c.loop-u.count c.loop-u.kept) ≡ c.loop-u.count = length-take-le _ _ (omega (arith, c.loop-u.invariant.1, c.loop-u.invariant.2, c.requires, c.select_left-count.auto.kept)) in
    (omega (arith, c.loop-u-test.true), omega (arith, c.keep_open-count.ensures.0, lent, c.loop-u.invariant.1), same_len_mid 0 c.loop-u.count c.loop-u.kept c.keep_open-count.new.kept c.keep_open-count.auto.kept ∙ c.loop-u.invariant.2, take_lent c.loop-u.count c.keep_open-count.result c.loop-u.kept c.keep_open-count.new.kept (omega (arith, c.keep_open-count.ensures.0, c.keep_open-count.auto.kept)) ∙ c.keep_open-count.ensures.1 ∙ ap (keep (open_in (net_of c.args.network.now.image.now) (c.loop-u.u + 1))) c.loop-u.invariant.3 ∙ one_column_more (net_of c.args.network.now.image.now) c.loop-u.u _)

pub keep_open-count-requires : goal.keep_open-count-requires
keep_open-count-requires c =
    record { column = record { from = omega arith; upto = omega (arith, c.loop-u-test.true, c.args.network.now.accepted.columns_are) }; indices = indices_of (left c.args.closed.now) (open_upto (net_of c.args.network.now.image.now) c.loop-u.u) c.args.network.now.sizes.m c.loop-u.invariant.3 }
