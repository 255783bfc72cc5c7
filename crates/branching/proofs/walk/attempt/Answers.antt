-- `walk::attempt` lengthens the path by the step's node and the walk from there, and clears the flags behind d again. Assumes nothing.
use native.Mathlib.Omega.{arith}
use Prim.Native.Nat.{ℕ}
use mathlib.Core.Path.{◌≡◌, refl, sym, subst}
use Rattle.std.proofs.Common.{Result, Ok, Err, IfOk, is_ok}
use mathlib.Core.Bool.{true}
use Rattle.terms.proofs.ListLaws.{clash}
use Rattle.branching.specs.Laid.{reached}
use Rattle.branching.proofs.LaidLaws.{take_more, last_more, laid_room, laid_more, tried, tried_back}
use Rattle.branching.proofs.walk.attempt.Goals as goal

-- if it arrived, what holds of its length holds there
ok_at : (P : ℕ → Type 0) (r : Result ℕ ℕ) {len : ℕ} → reached r ≡ len → true ≡ is_ok r → IfOk r P → P len
ok_at P (Ok x) e t h = subst P e h
ok_at P (Err x) e t h = absurd (clash {b = true} refl t)

pub walk-end-requires : goal.walk-end-requires
walk-end-requires c = record { labels_long = c.requires.labels_long; laid = (laid_more c.requires.laid.0 c.requires.laid.1, omega arith) }

pub bounds-path-d : goal.bounds-path-d
bounds-path-d c = laid_room c.requires.laid.0 c.requires.laid.1

pub unmark-requires : goal.unmark-requires
unmark-requires c =
    let len_is = sym c.length_at-len.ensures in
    let longer = rw len_is at c.walk-end.ensures.longer in
    (rw longer.laid.flags_long longer.laid, omega (arith, longer.no_shorter))

pub returns-in_err-ok : goal.returns-in_err-ok
returns-in_err-ok c =
    let len_is = sym c.length_at-len.ensures in
    let t = tried c.args.step.node c.requires.laid.0 (rw len_is at c.walk-end.ensures.longer) c.unmark.ensures in
    rw c.from_residual.ensures (record { back = tried_back t; tried = tt; arrives = λ r. tt; cost_is = tt })

pub returns : goal.returns
returns c =
    let room = laid_room c.requires.laid.0 c.requires.laid.1 in
    let len_is = sym c.length_at-len.ensures in
    let t = tried c.args.step.node c.requires.laid.0 (rw len_is at c.walk-end.ensures.longer) c.unmark.ensures in
    record { back = tried_back t; tried = t; arrives = λ r. rw (take_more c.args.path.now c.args.d c.args.step.node room, last_more c.args.path.now c.args.d c.args.step.node room) at (ok_at _ c.walk-end.result len_is c.in_ok-ok.ensures.variant (c.walk-end.ensures.arrives (rw (last_more c.args.path.now c.args.d c.args.step.node room) r))); cost_is = refl }
