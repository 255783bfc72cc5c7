-- `clearing::clear` fills the workspace with 0. The loop: the words below `from` are 0. Assumes nothing.
use Prim.Native.Nat.{ℕ}
use native.Mathlib.Omega.{arith}
use mathlib.Core.Path.{◌∙◌, ap}
use lib.ListN.{replicate}
use borrow.Rule.Slice.PartMut.{mid_len}
use Rattle.listing.proofs.ClearLaws.{none_cleared, piece_cleared, all_cleared}
use Rattle.listing.proofs.clearing.clear.Goals as goal

pub loop-from-init : goal.loop-from-init
loop-from-init c = none_cleared c.args.work.now

pub loop-from-preserved : goal.loop-from-preserved
loop-from-preserved c = piece_cleared c.args.work.now c.loop-from.work c.fill.new.self _ _ (omega arith) (omega arith) c.loop-from.invariant (c.fill.ensures.after (λ y h. h) ∙ ap (λ (x : ℕ). replicate x 0) (mid_len _ _ c.loop-from.work (omega arith)))

pub returns : goal.returns
returns c = c.loop-from.invariant ∙ all_cleared c.args.work.now _ (omega arith)
