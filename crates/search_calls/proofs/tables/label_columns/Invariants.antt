-- `tables::label_columns`: the first u columns are labelled. Assumes nothing.
use Prim.Native.Nat.{◌+◌}
use Rattle.image.specs.Layout.{net_of}
use Rattle.search_calls.proofs.LabelLaws.{LabelledTo}
use Rattle.search_calls.proofs.tables.label_columns.Given as goal

abbrev pub invariant-loop-u : goal.invariant-loop-u
invariant-loop-u l = LabelledTo (net_of l.network.image.now) l.goal l.u (l.network.sizes.n + 1) l.labels
