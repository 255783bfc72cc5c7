-- `map::closed_roads`: the ones of one word more are counted. Assumes nothing.
use Prim.Native.Nat.{ℕ, ◌+◌, ◌-◌, ◌*◌, ◌%◌, ◌^◌, min}
use native.Mathlib.Omega.{arith}
use mathlib.Core.Path.{◌≡◌, ◌∙◌, ap}
use lib.ListN.{get_or}
use lib.Count.{ones}
use Rattle.closures.proofs.MapLaws.{closed_roads_none, closed_roads_more, closed_roads_all, closed_roads_short, closed_roads_le}
use Rattle.closures.proofs.map.closed_roads.Goals as goal

pub loop-word-init : goal.loop-word-init
loop-word-init c = (omega arith, closed_roads_none c.args.words.now c.args.m)

pub loop-word-preserved : goal.loop-word-preserved
loop-word-preserved c =
    let ones_are : c.ones_below-count.result ≡ ones (get_or c.args.words.now c.loop-word.word-index 0 % 2 ^ min (c.args.m - 64 * c.loop-word.word-index) 64) = c.ones_below-count.ensures ∙ ap (λ (k : ℕ). ones (get_or c.args.words.now c.loop-word.word-index 0 % 2 ^ min k 64)) c.loop-word.invariant.0 in
    (omega (arith, c.saturating_sub-left.ensures, c.loop-word.invariant.0), omega (arith, ones_are, c.loop-word.invariant.1, closed_roads_more c.args.words.now c.args.m c.loop-word.word-index))

pub overflow_add-count : goal.overflow_add-count
overflow_add-count c =
    let ones_are : c.ones_below-count.result ≡ ones (get_or c.args.words.now c.loop-word.word-index 0 % 2 ^ min (c.args.m - 64 * c.loop-word.word-index) 64) = c.ones_below-count.ensures ∙ ap (λ (k : ℕ). ones (get_or c.args.words.now c.loop-word.word-index 0 % 2 ^ min k 64)) c.loop-word.invariant.0 in
    omega (arith, c.requires, ones_are, c.loop-word.invariant.1, closed_roads_more c.args.words.now c.args.m c.loop-word.word-index, closed_roads_le c.args.words.now (min c.args.m (64 * (c.loop-word.word-index + 1))))

pub returns-then-left-eq0 : goal.returns-then-left-eq0
returns-then-left-eq0 c =
    let all = c.loop-word.invariant.1 ∙ closed_roads_all c.args.words.now c.args.m c.loop-word.word-index (omega (arith, c.if-left-eq0.true, c.loop-word.invariant.0)) in
    (all, omega (arith, all, closed_roads_le c.args.words.now c.args.m))

pub returns : goal.returns
returns c =
    let all = c.loop-word.invariant.1 ∙ closed_roads_short c.args.words.now c.args.m c.loop-word.word-index (omega arith) in
    (all, omega (arith, all, closed_roads_le c.args.words.now c.args.m))
