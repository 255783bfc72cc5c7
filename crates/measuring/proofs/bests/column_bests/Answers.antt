-- `bests::column_bests`: the bests of all columns are set. Assumes nothing.
use Prim.Native.Nat.{ℕ}
use native.Mathlib.Omega.{arith}
use mathlib.Core.Path.{sym, ◌∙◌}
use Rattle.terms.specs.Network.{column}
use Rattle.terms.specs.Regret.{best}
use Rattle.measuring.specs.Networks.{network_of}
use Rattle.measuring.proofs.BestLaws.{held_bests, filled_all}
use Rattle.measuring.proofs.bests.column_bests.Goals as goal

pub returns : goal.returns
returns c =
    let columns = c.args.columns.now in
    let best_of : ℕ → ℕ = λ u. best columns.nodes (column (network_of columns) u) c.args.start c.args.goal in
    filled_all best_of (c.loop-i.auto.bests ∙ c.requires.bests_long) (λ j b. c.loop-i.invariant j (omega (arith, c.requires.bests_long))) ∙ sym (held_bests c.requires.joined)
