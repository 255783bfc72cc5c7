-- `loading::label_nodes`: no node is barred. Assumes nothing.
use Prim.Native.Nat.{◌≤◌}
use native.Mathlib.Omega.{arith}
use lib.ListN.{length}
use Rattle.star.proofs.Stores.{flags_long, flags_clear}
use Rattle.labels.proofs.LabelLaws.{unbarred}
use Rattle.star.proofs.NetworkLaws.{graph_few}
use Rattle.loading.proofs.loading.label_nodes.Goals as goal

pub returns : goal.returns
returns c = unbarred (flags_clear 201 (length c.args.overall.now)) c.least.ensures

pub least-requires : goal.least-requires
least-requires c =
    let places_fit : length c.args.overall.now ≤ 201 = omega (arith, c.requires.overall_long, graph_few c.args.graph.now) in
    record { labels_long = c.requires.overall_long; barred_long = flags_long 201 _ places_fit; goal = record { place = omega (arith, c.requires.goal, c.requires.overall_long); free = flags_clear 201 (length c.args.overall.now) _ } }
