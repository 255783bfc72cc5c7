-- `rows::write_rows` writes the entries out. The loop: the first i are written. Assumes nothing.
use Rattle.std.proofs.Common.{◌≡◌, ◌*◌, ◌++◌, map, take, drop}
use Rattle.candidates.specs.Views.{listed}
use Rattle.candidates.specs.Routes.{routes}
use Rattle.listing.specs.Rows.{rows_of}
use Rattle.listing.proofs.rows.write_rows.Given as goal

abbrev pub invariant-loop-i : goal.invariant-loop-i
invariant-loop-i l = (l.rows ≡ rows_of l.ranked.entries.nodes (take l.i (routes l.ranked.start (listed l.ranked.entries))) ++ drop (l.i * l.ranked.entries.nodes) l.initial.rows) × (take l.i l.costs ≡ take l.i (map (λ e. e.cost) (listed l.ranked.entries))) × (drop l.i l.costs ≡ drop l.i l.initial.costs)
