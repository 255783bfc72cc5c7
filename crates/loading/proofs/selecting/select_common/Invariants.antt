-- `selecting::select_common`: of the indices that the map leaves, those of the arcs that are open in the columns 1 to u. Assumes nothing.
use Prim.Native.Nat.{◌≤◌}
use mathlib.Core.Path.{◌≡◌}
use lib.ListN.{length, take}
use Rattle.terms.specs.Lists.{keep}
use Rattle.image.specs.Layout.{net_of}
use Rattle.closures.specs.Map.{left}
use Rattle.loading.specs.Selected.{passing}
use Rattle.loading.proofs.SelectLaws.{open_upto}
use Rattle.loading.proofs.selecting.select_common.Given as goal

abbrev pub invariant-loop-u : goal.invariant-loop-u
invariant-loop-u l = (l.u ≤ l.u-end) × (l.count ≤ l.network.sizes.m) × (length l.kept ≡ length l.initial.kept) × (take l.count l.kept ≡ keep (open_upto (net_of l.network.image.now) l.u) (passing (left l.closed) l.network.sizes.m))
