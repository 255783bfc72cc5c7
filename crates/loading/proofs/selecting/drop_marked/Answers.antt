-- `selecting::drop_marked`: of the first i indices those that are kept stand at the front, and behind i nothing has changed. Assumes nothing.
use Prim.Native.Nat.{ℕ, ◌<◌}
use native.Mathlib.Omega.{arith}
use mathlib.Core.Path.{◌≡◌, refl, sym, ◌∙◌, ap}
use lib.ListN.{length, get_or, set, length-set}
use mathlib.Core.Bool.{true, false}
use lib.Seq.{get_or-set_other, take_all}
use borrow.Author.Tests.{eq-eqb, ne_eqb}
use Rattle.terms.specs.Lists.{keep}
use Rattle.terms.specs.Network.{mark}
use Rattle.image.specs.Bytes.{decode}
use Rattle.image.proofs.ByteLaws.{decode_at}
use Rattle.loading.specs.Selected.{unmarked_at}
use Rattle.loading.proofs.SelectLaws.{index_below, index_kept, index_dropped}
use Rattle.loading.proofs.selecting.drop_marked.Goals as goal
use Rattle.loading.proofs.selecting.drop_marked.Goals.{then-read, else-read}

pub loop-i-init : goal.loop-i-init
unfolding keep
loop-i-init c = (omega arith, omega arith, refl, refl, λ j h. refl)

pub read-requires : goal.read-requires
read-requires c =
    let same : get_or c.loop-i.kept c.loop-i.i 0 ≡ get_or c.args.kept.now c.loop-i.i 0 = c.loop-i.invariant.4 c.loop-i.i (omega arith) in
    let below : get_or c.loop-i.kept c.loop-i.i 0 < c.args.m = omega (arith, same, index_below c.requires.indices c.loop-i.i (omega (arith, c.loop-i-test.true, c.loop-i.invariant.2))) in
    omega (arith, below, c.requires.costs_long)

pub loop-i-preserved : goal.loop-i-preserved
loop-i-preserved c =
    let same : get_or c.loop-i.kept c.loop-i.i 0 ≡ get_or c.args.kept.now c.loop-i.i 0 = c.loop-i.invariant.4 c.loop-i.i (omega arith) in
    let below : get_or c.loop-i.kept c.loop-i.i 0 < c.args.m = omega (arith, same, index_below c.requires.indices c.loop-i.i (omega (arith, c.loop-i-test.true, c.loop-i.invariant.2))) in
    let read : get_or (decode 4 c.args.m c.args.costs.now) (get_or c.args.kept.now c.loop-i.i 0) 0 ≡ c.read.result = ap (λ i. get_or (decode 4 c.args.m c.args.costs.now) i 0) (sym same) ∙ decode_at 4 c.args.m c.args.costs.now _ below ∙ sym c.read.ensures in
    let here : c.loop-i.i < length c.args.kept.now = omega (arith, c.loop-i.invariant.2, c.loop-i-test.true) in
    elim c.if-read.branch [
      | then-read w ↦
          let here' : c.loop-i.front < length c.loop-i.kept = omega (arith, here, c.loop-i.invariant.1, c.loop-i.invariant.2) in
          let opened : (unmarked_at (decode 4 c.args.m c.args.costs.now)) (get_or c.args.kept.now c.loop-i.i 0) ≡ true = rw (ne_eqb _ mark (λ e. w.if-read.true (sym read ∙ e))) in
          let k' = w.kept-is ∙ ap (λ (x : ℕ). set c.loop-i.kept c.loop-i.front x) same in
          rw (k', w.front-is) (omega (arith, here), omega (arith, c.loop-i.invariant.1), simp length-set c.loop-i.invariant.2, index_kept (unmarked_at (decode 4 c.args.m c.args.costs.now)) c.args.kept.now c.loop-i.kept c.loop-i.i c.loop-i.front here c.loop-i.invariant.3 here' opened, λ j b. get_or-set_other c.loop-i.kept c.loop-i.front j _ 0 (λ e. omega (arith, c.loop-i.invariant.1)) ∙ c.loop-i.invariant.4 j (omega arith))
      | else-read w ↦
          let closed : (unmarked_at (decode 4 c.args.m c.args.costs.now)) (get_or c.args.kept.now c.loop-i.i 0) ≡ false = rw (eq-eqb _ mark (read ∙ w.if-read.false)) in
          rw (w.kept-is, w.front-is) (omega (arith, here), omega (arith, c.loop-i.invariant.1), c.loop-i.invariant.2, index_dropped (unmarked_at (decode 4 c.args.m c.args.costs.now)) c.args.kept.now c.loop-i.kept c.loop-i.i c.loop-i.front here c.loop-i.invariant.3 closed, λ j b. c.loop-i.invariant.4 j (omega arith))
    ]

pub returns : goal.returns
returns c =
    let done : c.loop-i.i ≡ length c.args.kept.now = omega (arith, c.loop-i-test.false, c.loop-i.invariant.0, c.loop-i.invariant.2) in
    (omega (arith, c.loop-i.invariant.1, done), c.loop-i.invariant.3 ∙ ap (keep (unmarked_at (decode 4 c.args.m c.args.costs.now))) (take_all c.loop-i.i c.args.kept.now (omega (arith, done))))
