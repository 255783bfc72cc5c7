-- `first_paths::list_loaded`: the entries at the end are the ranked list, and are written out as rows and costs. Assumes nothing.
use Prim.Native.Nat.{ℕ}
use mathlib.Core.Path.{◌∙◌, ap}
use lib.ListN.{replicate}
use Rattle.candidates.proofs.EntryLaws.{kept_readable}
use Rattle.ranking.proofs.ResultLaws.{ranked_count}
use Rattle.column_calls.proofs.RankLaws.{entry_costs, entry_room, entry_rows, entry_costs_out}
use Rattle.column_calls.proofs.first_paths.list_loaded.Goals as goal

pub invariant_of-entries : goal.invariant_of-entries
invariant_of-entries c = record { readable = kept_readable c.rank_paths-count.ensures.kept }

pub invariant_of-ranked : goal.invariant_of-ranked
invariant_of-ranked c = record { family = c.rank_paths-count.ensures.entered.family }

pub write_rows-requires : goal.write_rows-requires
write_rows-requires c =
    record { room = entry_room c.rank_paths-count.ensures c.requires.list_slices; costs_fit = entry_costs c.rank_paths-count.ensures c.requires.costs_fit }

pub returns : goal.returns
returns c =
    record { value = ranked_count c.rank_paths-count.ensures; rows_after = entry_rows c.rank_paths-count.ensures _ (entry_room c.rank_paths-count.ensures c.requires.list_slices).0 c.write_rows.auto.rows c.write_rows.ensures.rows_after; costs_after = entry_costs_out c.rank_paths-count.ensures _ c.write_rows.ensures.costs_after; work_after = c.clear.ensures ∙ ap (λ (k : ℕ). replicate k 0) c.rank_paths-count.auto.work }
