-- `selecting::select_open`: of the indices that the map leaves, those of the arcs that are open in the column. Assumes nothing.
use native.Mathlib.Omega.{arith}
use mathlib.Core.Path.{◌≡◌, sym, ◌∙◌, ap, subst}
use lib.ListN.{length, take}
use lib.Seq.{length-take-le}
use Rattle.terms.specs.Lists.{keep, numbers}
use Rattle.terms.specs.Network.{open_in, Admitted}
use Rattle.terms.proofs.ListLaws.{keep_keep}
use Rattle.image.specs.Layout.{net_of}
use Rattle.closures.specs.Map.{left}
use Rattle.loading.specs.Selected.{passing}
use Rattle.loading.proofs.SelectLaws.{first_edition_open, take_lent}
use Rattle.loading.proofs.DecodeLaws.{admitted, few_arcs}
use Rattle.loading.proofs.selecting.select_open.Goals as goal

pub select_left-count-requires : goal.select_left-count-requires
select_left-count-requires c = omega (arith, c.requires.kept_len, few_arcs c.args.network.now.accepted)

pub returns-then-network-eq1 : goal.returns-then-network-eq1
returns-then-network-eq1 c =
    let all : take c.select_left-count.result c.select_left-count.new.kept ≡ passing (left c.args.closed.now) c.args.network.now.sizes.m = c.select_left-count.ensures.1 ∙ ap (passing (left c.args.closed.now)) c.requires.kept_len in
    let net = net_of c.args.network.now.image.now in
    let edition-1 = subst (λ e. Admitted e net) (sym c.args.network.now.accepted.edition_is ∙ c.if-network-eq1.true) (admitted c.args.network.now.accepted) in
    (omega (arith, c.select_left-count.ensures.0, c.requires.kept_len), all ∙ first_edition_open edition-1 c.args.u c.requires.column.from c.requires.column.upto (left c.args.closed.now) c.args.network.now.accepted.arcs_are ∙ keep_keep (left c.args.closed.now) (open_in net c.args.u) (numbers 0 c.args.network.now.sizes.m))

pub keep_open-requires : goal.keep_open-requires
keep_open-requires c =
    let all : take c.select_left-count.result c.select_left-count.new.kept ≡ passing (left c.args.closed.now) c.args.network.now.sizes.m = c.select_left-count.ensures.1 ∙ ap (passing (left c.args.closed.now)) c.requires.kept_len in
    record { column = c.requires.column; indices = record { test = left c.args.closed.now; are = all } }

pub returns : goal.returns
returns c =
    let all : take c.select_left-count.result c.select_left-count.new.kept ≡ passing (left c.args.closed.now) c.args.network.now.sizes.m = c.select_left-count.ensures.1 ∙ ap (passing (left c.args.closed.now)) c.requires.kept_len in
    let open_there = open_in (net_of c.args.network.now.image.now) c.args.u in
    let lent : length (take c.select_left-count.result c.select_left-count.new.kept) ≡ c.select_left-count.result = length-take-le _ _ (omega (arith, c.select_left-count.ensures.0, c.select_left-count.auto.kept)) in
    (omega (arith, c.keep_open.ensures.0, lent, c.select_left-count.ensures.0, c.requires.kept_len), take_lent c.select_left-count.result c.keep_open.result c.select_left-count.new.kept c.keep_open.new.kept (omega (arith, c.keep_open.ensures.0, c.keep_open.auto.kept)) ∙ c.keep_open.ensures.1 ∙ ap (keep open_there) all ∙ keep_keep (left c.args.closed.now) open_there (numbers 0 c.args.network.now.sizes.m))
