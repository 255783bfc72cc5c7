-- `selecting::number_left`: of the first i indices those that the map leaves stand at the front. Assumes nothing.
use Prim.Native.Nat.{ℕ, ◌<◌}
use native.Mathlib.Omega.{arith}
use mathlib.Core.Path.{◌≡◌, refl, sym, ◌∙◌, ap}
use mathlib.Core.Bool.{true, false, not}
use lib.ListN.{length, get_or, set, length-set}
use lib.Seq.{take_all}
use Rattle.terms.specs.Lists.{keep, numbers}
use Rattle.terms.proofs.ListLaws.{length_numbers}
use Rattle.closures.specs.Map.{left, shut}
use Rattle.loading.proofs.SelectLaws.{index_kept, index_dropped, number_at}
use Rattle.loading.proofs.selecting.number_left.Goals as goal
use Rattle.loading.proofs.selecting.number_left.Goals.{then-not-is_closed, else-not-is_closed}

pub returns : goal.returns
returns c =
    let done : c.loop-i.i ≡ length c.args.kept.now = omega (arith, c.loop-i-test.false, c.loop-i.invariant.0, c.loop-i.invariant.2) in
    (omega (arith, c.loop-i.invariant.1, done), c.loop-i.invariant.3 ∙ ap (keep (left c.args.closed.now)) (take_all c.loop-i.i (numbers 0 (length c.args.kept.now)) (omega (arith, done, length_numbers 0 (length c.args.kept.now)))))

pub loop-i-init : goal.loop-i-init
unfolding keep
loop-i-init c = (omega arith, omega arith, refl, refl)

pub loop-i-preserved : goal.loop-i-preserved
unfolding left
loop-i-preserved c =
    let own : c.loop-i.i ≡ get_or (numbers 0 (length c.args.kept.now)) c.loop-i.i 0 = number_at (length c.args.kept.now) c.loop-i.i (omega (arith, c.loop-i-test.true, c.loop-i.invariant.2)) in
    let here : c.loop-i.i < length (numbers 0 (length c.args.kept.now)) = omega (arith, c.loop-i-test.true, c.loop-i.invariant.2, length_numbers 0 (length c.args.kept.now)) in
    elim c.if-not-is_closed.branch [
      | then-not-is_closed w ↦
          let opened : left c.args.closed.now (get_or (numbers 0 (length c.args.kept.now)) c.loop-i.i 0) ≡ true = ap (λ (j : ℕ). not (shut c.args.closed.now j)) (sym own) ∙ ap not (sym c.is_closed.ensures ∙ w.if-not-is_closed.true) in
          let k' = w.kept-is ∙ ap (λ (x : ℕ). set c.loop-i.kept c.loop-i.front x) own in
          rw (k', w.front-is) (omega (arith, here, length_numbers 0 (length c.args.kept.now)), omega (arith, c.loop-i.invariant.1), simp length-set c.loop-i.invariant.2, index_kept (left c.args.closed.now) (numbers 0 (length c.args.kept.now)) c.loop-i.kept c.loop-i.i c.loop-i.front here c.loop-i.invariant.3 (omega (arith, c.loop-i-test.true, c.loop-i.invariant.1, c.loop-i.invariant.2)) opened)
      | else-not-is_closed w ↦
          let closed : left c.args.closed.now (get_or (numbers 0 (length c.args.kept.now)) c.loop-i.i 0) ≡ false = ap (λ (j : ℕ). not (shut c.args.closed.now j)) (sym own) ∙ ap not (sym c.is_closed.ensures ∙ w.if-not-is_closed.false) in
          rw (w.kept-is, w.front-is) (omega (arith, here, length_numbers 0 (length c.args.kept.now)), omega (arith, c.loop-i.invariant.1), c.loop-i.invariant.2, index_dropped (left c.args.closed.now) (numbers 0 (length c.args.kept.now)) c.loop-i.kept c.loop-i.i c.loop-i.front here c.loop-i.invariant.3 closed)
    ]
