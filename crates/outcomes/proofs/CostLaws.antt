-- No path of an admitted network costs more than 199,000,000. Assumes nothing.
use Prim.Native.Nat.{ℕ, ◌≤◌}
use lib.ListN.{length}
use Rattle.terms.specs.Network.{Net, column, Admitted}
use Rattle.terms.specs.Paths.{Route, Path, cost}
use Rattle.star.proofs.ArcLaws.{path_cost_le}
use Rattle.loading.proofs.LoadLaws.{column_held}

module _ {e : ℕ} {net : Net} (ok : Admitted e net) where
  pub column_cost_le : {u s t : ℕ} {p : Route} → 1 ≤ u → u ≤ length net.columns → Path (column net u) s t p → cost (column net u) p ≤ 199000000
  column_cost_le from upto r =
      let held = column_held ok from upto in
      rw (← held.graph_is) (path_cost_le held.arcs 1000000 held.light (rw (← held.graph_is) at r))
