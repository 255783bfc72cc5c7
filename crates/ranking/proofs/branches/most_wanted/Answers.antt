-- `branches::most_wanted` takes the cost of the beginning from that of the last entry, if every slot is taken. Assumes nothing.
use Prim.Native.Nat.{◌-◌}
use native.Mathlib.Omega.{arith}
use mathlib.Core.Path.{◌≡◌, ap}
use lib.ListN.{get_or}
use Rattle.candidates.specs.Slots.{Entry, none}
use Rattle.candidates.specs.Views.{entry_in, listed}
use Rattle.candidates.proofs.EntryLaws.{entries_at}
use Rattle.ranking.proofs.branches.most_wanted.Goals as goal

pub returns : goal.returns
returns c =
    let l = c.args.entries.now in
    let last_cost : (get_or (listed l) (l.count - 1) none).cost ≡ (entry_in l (l.count - 1)).cost = ap (λ (e : Entry). e.cost) (entries_at l.nodes l.work.now l.count (l.count - 1) (omega (arith, c.requires.0))) in
    record { small = omega arith; full = λ _. omega (arith, c.requires.1); last = λ h. omega (arith, h, last_cost, c.cost-dearest.ensures) }
