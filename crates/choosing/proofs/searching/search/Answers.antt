-- `searching::search`: each path that is counted is the next of the ranked list, and the count ends with Robust's answer. Assumes nothing.
use Prim.Native.Nat.{ℕ, ◌+◌, ◌-◌, max}
use native.Mathlib.Omega.{arith}
use mathlib.Core.Path.{refl, sym, ◌∙◌, ap₂}
use Rattle.terms.proofs.ListLaws.{clash}
use Rattle.labels.specs.Labels.{far}
use Rattle.candidates.proofs.EntryLaws.{kept_readable}
use Rattle.choosing.specs.Contests.{ranked_in, figure_in, worst_in}
use Rattle.choosing.specs.Counting.{CountingIn}
use Rattle.choosing.proofs.CountingLaws.{outlook_some, low_small, counting_none, next_within, next_is, next_path, split_due, counted_on}
use Rattle.choosing.proofs.PricedLaws.{figure_in_to, low_no_less}
use Rattle.choosing.proofs.FindingLaws.{decided}
use Rattle.choosing.proofs.searching.search.Goals.{After-begin-count, After-split-count}
use Rattle.choosing.proofs.searching.search.Goals as goal

-- ---- it begins
begun : (c : After-begin-count) → CountingIn c.args.contest.now c.begin-count.new.work c.begin-count.result 0 (record { place = 0; figure = far - c.best-best.result; worst = 0 })
begun c =
    let x = c.args.contest.now in
    let small = low_small x.query.graph.holds x.query.posed (low_no_less x) x.posed.some_path in
    rw c.best-best.ensures (counting_none x.query.graph.holds x.query.posed (low_no_less x) x.posed.some_path c.begin-count.ensures (figure_in x) (worst_in x) (λ p q. omega (arith, figure_in_to x p q, small)))

pub next_deviation-floor-requires : goal.next_deviation-floor-requires
next_deviation-floor-requires c = begun (goal.at.next_deviation-floor-requires c).After-begin-count

pub loop-j-init : goal.loop-j-init
loop-j-init c =
    let x = c.args.contest.now in
    let small = low_small x.query.graph.holds x.query.posed (low_no_less x) x.posed.some_path in
    (begun (goal.at.loop-j-init c).After-begin-count, refl, omega (arith, small, c.best-best.ensures), c.next_deviation-floor.ensures, omega arith)

-- ---- a path is counted
pub count_path-leader-requires : goal.count_path-leader-requires
count_path-leader-requires c =
    let x = c.args.contest.now in
    let due = outlook_some c.loop-j.invariant.3 (sym c.if-is_some.ensures) in
    record { inside = due.0; is_path = next_path x.query.graph.holds x.query.posed (low_no_less x) c.loop-j.invariant.0 due }

pub invariant_of-entries : goal.invariant_of-entries
invariant_of-entries c = record { readable = kept_readable c.loop-j.invariant.0.filled.kept }

pub invariant_of-ranked : goal.invariant_of-ranked
invariant_of-ranked c = record { family = c.loop-j.invariant.0.filled.entered.family }

pub cost-requires : goal.cost-requires
cost-requires c = (outlook_some c.loop-j.invariant.3 (sym c.if-is_some.ensures)).0

pub overflow_add-cost : goal.overflow_add-cost
overflow_add-cost c =
    let due = outlook_some c.loop-j.invariant.3 (sym c.if-is_some.ensures) in
    omega (arith, c.cost.ensures, due.1, c.loop-j.invariant.2)

pub split-count-requires : goal.split-count-requires
split-count-requires c =
    let x = c.args.contest.now in
    let due = outlook_some c.loop-j.invariant.3 (sym c.if-is_some.ensures) in
    let limit_is = c.max-limit.ensures ∙ ap₂ (λ (b d : ℕ). max (b + c.count_path-leader.result.figure) (d + 1)) c.best-best.ensures c.cost.ensures in
    record { filled = c.loop-j.invariant.0.filled; due = split_due x.query.graph.holds x.query.posed (low_no_less x) c.loop-j.invariant.0 due c.count_path-leader.ensures.no_more limit_is }

one_more : (c : After-split-count) → CountingIn c.args.contest.now c.split-count.new.work c.split-count.result (c.loop-j.j + 1) c.count_path-leader.result
one_more c =
    let x = c.args.contest.now in
    let due = outlook_some c.loop-j.invariant.3 (sym c.if-is_some.ensures) in
    let limit_is = c.max-limit.ensures ∙ ap₂ (λ (b d : ℕ). max (b + c.count_path-leader.result.figure) (d + 1)) c.best-best.ensures c.cost.ensures in
    let within = next_within x.query.graph.holds x.query.posed (low_no_less x) c.loop-j.invariant.0 due in
    let next = next_is x.query.graph.holds x.query.posed (low_no_less x) c.loop-j.invariant.0 due in
    let leading = c.count_path-leader.ensures.leads (ranked_in x) within next c.loop-j.invariant.0.leading in
    counted_on x.query.graph.holds x.query.posed (low_no_less x) c.loop-j.invariant.0 due limit_is leading c.split-count.ensures.changed c.split-count.ensures.searching

pub next_deviation-floor-requires-in-loop-j : goal.next_deviation-floor-requires-in-loop-j
next_deviation-floor-requires-in-loop-j c = one_more (goal.at.next_deviation-floor-requires-in-loop-j c).After-split-count

pub loop-j-preserved : goal.loop-j-preserved
loop-j-preserved c = (
  one_more (goal.at.loop-j-preserved c).After-split-count,
  c.split-count.ensures.changed.beyond ∙ c.loop-j.invariant.1,
  omega (arith, c.count_path-leader.ensures.no_more, c.loop-j.invariant.2),
  c.next_deviation-floor-in-loop-j.ensures,
  omega (arith, c.loop-j-test.true),
)

-- ---- the count ends
pub returns-after-loop-j : goal.returns-after-loop-j
returns-after-loop-j c =
    let D = decided c.args.contest.now c.loop-j.invariant.0 c.loop-j.invariant.3 c.loop-j.invariant.4 (λ _. omega (arith, c.loop-j-test.false)) in
    record { beyond_same = c.loop-j.invariant.1 ∙ c.begin-count.ensures.beyond; counted = D.0; decided = D.1 }

pub returns-else-is_some : goal.returns-else-is_some
returns-else-is_some c =
    let D = decided c.args.contest.now c.loop-j.invariant.0 c.loop-j.invariant.3 c.loop-j.invariant.4 (λ e. clash e (sym c.if-is_some.ensures)) in
    record { beyond_same = c.loop-j.invariant.1 ∙ c.begin-count.ensures.beyond; counted = D.0; decided = D.1 }
