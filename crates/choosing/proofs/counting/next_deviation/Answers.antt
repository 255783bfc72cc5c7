-- `counting::next_deviation`: each test decides. Assumes nothing.
use native.Mathlib.Omega.{arith}
use Rattle.candidates.proofs.EntryLaws.{kept_readable}
use Rattle.choosing.specs.Counting.{Outlook}
use Rattle.choosing.proofs.CountingLaws.{candidate_most, counted_inside}
use Rattle.choosing.proofs.PricedLaws.{low_no_less}
use Rattle.choosing.proofs.counting.next_deviation.Goals as goal

pub invariant_of-entries : goal.invariant_of-entries
invariant_of-entries c = record { readable = kept_readable c.requires.filled.kept }

pub returns-then-deviation-leader : goal.returns-then-deviation-leader
returns-then-deviation-leader c =
    let x = c.args.contest.now in
    let least = candidate_most x.query.graph.holds x.query.posed (low_no_less x) c.requires c.if-place-count.true in
    Outlook.more _ c.if-place-count.true (omega (arith, c.cost-next.ensures, c.best.ensures, least)) (omega (arith, c.cost-next.ensures, c.best.ensures))

pub returns-else-deviation-leader : goal.returns-else-deviation-leader
returns-else-deviation-leader c =
    let x = c.args.contest.now in
    let least = candidate_most x.query.graph.holds x.query.posed (low_no_less x) c.requires c.if-place-count.true in
    Outlook.late c.if-place-count.true (omega (arith, c.cost-next.ensures, c.best.ensures, least))

pub returns-else-place-count : goal.returns-else-place-count
returns-else-place-count c =
    let x = c.args.contest.now in
    Outlook.none_left (omega (arith, counted_inside x.query.graph.holds x.query.posed (low_no_less x) c.requires))

pub overflow_sub-deviation : goal.overflow_sub-deviation
overflow_sub-deviation c =
    let x = c.args.contest.now in
    omega (arith, c.cost-next.ensures, c.best.ensures, candidate_most x.query.graph.holds x.query.posed (low_no_less x) c.requires c.if-place-count.true)
