-- `search::leads` keeps to nodes. The loop: where the walk stands is a node. Assumes nothing.
use Prim.Native.Nat.{◌<◌}
use lib.ListN.{length}
use Rattle.sharpening.proofs.search.leads.Given as goal

abbrev pub invariant-loop : goal.invariant-loop
invariant-loop l = l.at < length l.overall
