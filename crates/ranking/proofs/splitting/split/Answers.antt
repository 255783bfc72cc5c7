-- `splitting::split`: the path is laid out and flagged, and its parts are looked into. Assumes nothing.
use Prim.Native.Nat.{◌+◌}
use native.Mathlib.Omega.{arith}
use lib.ListN.{take, replicate}
use Rattle.candidates.proofs.EntryLaws.{kept_readable}
use Rattle.branching.specs.Laid.{Laid}
use Rattle.star.proofs.NetworkLaws.{graph_few}
use Rattle.ranking.proofs.ProblemLaws.{blank_parts}
use Rattle.ranking.proofs.DueLaws.{due_place, due_filled, due_entry, due_cost, due_shared, due_size, due_short, due_some, due_waiting, due_markable, due_along}
use Rattle.ranking.proofs.splitting.split.Goals as goal

pub invariant_of-entries : goal.invariant_of-entries
invariant_of-entries c = record { readable = kept_readable c.requires.filled.kept }

pub invariant_of-routes : goal.invariant_of-routes
invariant_of-routes c = record { family = c.requires.filled.entered.family }

pub shared-shared-requires : goal.shared-shared-requires
shared-shared-requires c = let q = c.args.query.now in due_place q.graph.holds q.posed c.requires.filled c.requires.due

pub tail_length-requires : goal.tail_length-requires
tail_length-requires c = let q = c.args.query.now in due_place q.graph.holds q.posed c.requires.filled c.requires.due

pub lay_out-requires : goal.lay_out-requires
lay_out-requires c =
    let q = c.args.query.now in
    let F = c.requires.filled in
    let D = c.requires.due in
    let size_is = due_size q.graph.holds q.posed F D c.shared-shared.ensures c.tail_length.ensures in
    record { inside = due_place q.graph.holds q.posed F D; count_fits = rw (due_entry q.graph.holds q.posed F D) (omega (arith, size_is, due_some q.graph.holds q.posed F D), omega (arith, size_is), omega (arith, size_is, due_short q.graph.holds q.posed F D, (blank_parts (graph_few q.graph)).path_long)) }

pub mark-requires : goal.mark-requires
mark-requires c =
    let q = c.args.query.now in
    let F = c.requires.filled in
    let D = c.requires.due in
    let blank = blank_parts (graph_few q.graph) in
    let size_is = due_size q.graph.holds q.posed F D c.shared-shared.ensures c.tail_length.ensures in
    rw blank.used_long (due_markable q.graph.holds q.posed F D _ (take q.graph.nodes (replicate 200 0)) c.lay_out.new.path size_is c.lay_out.ensures blank.idle blank.used_long (omega (arith, c.lay_out.auto.path, blank.path_long)))

pub cost-cost-requires : goal.cost-cost-requires
cost-cost-requires c = let q = c.args.query.now in due_place q.graph.holds q.posed c.requires.filled c.requires.due

pub deviations-requires : goal.deviations-requires
deviations-requires c =
    let q = c.args.query.now in
    let F = c.requires.filled in
    let D = c.requires.due in
    let blank = blank_parts (graph_few q.graph) in
    let size_is = due_size q.graph.holds q.posed F D c.shared-shared.ensures c.tail_length.ensures in
    let laid : Laid (q.graph.nodes + 1) c.mark.new.used c.lay_out.new.path (c.shared-shared.result + c.tail_length.result) = rw blank.used_long at c.mark.ensures in
    record {
      filled = due_filled q.graph.holds q.posed F D;
      along = due_along q.graph.holds q.posed F D _ (take q.graph.nodes (replicate 200 0)) c.lay_out.new.path size_is c.lay_out.ensures c.cost-cost.result blank.idle laid (due_cost q.graph.holds q.posed F D c.cost-cost.ensures);
      shared_is = due_shared q.graph.holds q.posed F D c.shared-shared.ensures;
    }

pub returns : goal.returns
returns c =
    let q = c.args.query.now in
    let size_is = due_size q.graph.holds q.posed c.requires.filled c.requires.due c.shared-shared.ensures c.tail_length.ensures in
    record { changed = c.deviations.ensures.changed; searching = c.deviations.ensures.emptied.goes_on (rw size_is (due_waiting q.graph.holds q.posed c.requires.filled c.requires.due)) }

pub overflow_add-len : goal.overflow_add-len
overflow_add-len c =
    let q = c.args.query.now in
    let size_is = due_size q.graph.holds q.posed c.requires.filled c.requires.due c.shared-shared.ensures c.tail_length.ensures in
    omega (arith, size_is, due_short q.graph.holds q.posed c.requires.filled c.requires.due, c.requires.filled.kept.few)
