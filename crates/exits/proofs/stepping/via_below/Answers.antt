-- `stepping::via_below` tests label, sum, used and barred in turn; each test that fails shows that the number is not below `best`. Assumes nothing.
use Prim.Native.Nat.{◌≤◌, ◌<◌}
use native.Mathlib.Omega.{arith}
use mathlib.Core.Path.{◌≡◌, sym, ◌∙◌}
use mathlib.Core.Bool.{true≢false}
use lib.ListN.{get_or}
use Rattle.labels.specs.Labels.{far}
use Rattle.exits.specs.Exits.{via}
use Rattle.exits.proofs.ExitLaws.{via_open, via_shut, via_most, via_no_less}
use Rattle.exits.proofs.stepping.via_below.Goals as goal
use Rattle.exits.proofs.stepping.via_below.Goals.{then-best-l-via-then-best-l, then-best-l-via-else-best-l+then-used-y, then-best-l-via-else-best-l+else-used-y+then-barred-y}

pub returns-then-best-rest : goal.returns-then-best-rest
returns-then-best-rest c = record {
  is = tt;
  no_less = via_no_less _ _ _ _ _ (omega (arith, c.ranges.best)) (omega arith);
  at_most = via_most _ _ _ _ _ (omega (arith, c.ranges.w)) c.requires.small;
}

pub returns-then-best-l : goal.returns-then-best-l
returns-then-best-l c = record {
  is = tt;
  no_less =
      let best_le : c.args.best ≤ far = omega (arith, c.ranges.best) in
      elim c.then-best-l.branch [
        | then-best-l-via-then-best-l w ↦ via_no_less _ _ _ _ _ best_le w.if-best-l.true
        | then-best-l-via-else-best-l+then-used-y w ↦
            let e : via c.args.labels.now c.args.used.now c.args.barred.now c.args.y c.args.w ≡ far = via_shut _ _ _ _ _ (λ u _. true≢false (sym w.if-used-y.true ∙ u.unused)) in
            omega (arith, best_le)
        | then-best-l-via-else-best-l+else-used-y+then-barred-y w ↦
            let e : via c.args.labels.now c.args.used.now c.args.barred.now c.args.y c.args.w ≡ far = via_shut _ _ _ _ _ (λ u _. true≢false (sym w.if-barred-y.true ∙ u.free)) in
            omega (arith, best_le)
      ];
  at_most = via_most _ _ _ _ _ (omega (arith, c.ranges.w)) c.requires.small;
}

pub returns : goal.returns
returns c =
    let best_le : c.args.best ≤ far = omega (arith, c.ranges.best) in
    let reached : get_or c.args.labels.now c.args.y 0 < far = omega (arith, best_le) in
    record {
      is = (via_open _ _ _ _ _ (record { unused = c.if-used-y.false; free = c.if-barred-y.false }) reached, c.if-best-l.false);
      no_less = tt;
      at_most = via_most _ _ _ _ _ (omega (arith, c.ranges.w)) c.requires.small;
    }
