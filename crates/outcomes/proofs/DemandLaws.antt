-- Demand 2 holds of every call of Rank that passes the checks. Assumes nothing.
use Prim.Native.Nat.{ℕ}
use mathlib.Core.Path.{◌≡◌, ◌∙◌}
use mathlib.Core.List.{List}
use lib.ListN.{length-take}
use Rattle.terms.specs.Network.{column}
use Rattle.terms.specs.Paths.{Route, Path}
use Rattle.terms.specs.Ranking.{ranked}
use Rattle.terms.specs.Demand2.{Demand2}
use Rattle.terms.proofs.PathLaws.{column_within}
use Rattle.terms.proofs.Demand2Laws.{demand_2}
use Rattle.image.specs.Outcome.{sound}
use Rattle.image.specs.Layout.{net_of}
use Rattle.image.proofs.NetworkLaws.{accepted_network}
use Rattle.image.proofs.OutcomeLaws.{then_next, then_sound}
use Rattle.outcomes.specs.Calls.{rank_rows, rank_fault, rank_of, rank_costs_of}
use Rattle.loading.specs.Accepted.{InColumn}
use Rattle.outcomes.specs.Demands.{Kept2}
use Rattle.outcomes.proofs.RowLaws.{SearchSound, ranking_sound}
use Rattle.outcomes.proofs.ShortestLaws.{some_path}

module _ (b : List ℕ) (u s t K rows costs work : ℕ) where
  module _ (e : rank_rows b u s t K rows costs work ≡ sound) where
    checks : SearchSound b u s t
    unfolding rank_rows
    checks = (ranking_sound b u s t K work (then_sound _ _ e).0).search

    in_column : InColumn b u
    in_column = record { from = checks.from; upto = checks.upto }

    given : (p : Route) → Path (column (net_of b) u) s t p → rank_fault b u s t K rows costs work ≡ sound
    unfolding rank_fault
    given p h = then_next _ e ∙ some_path checks.accepted in_column checks.ends h

    first_paths : Demand2 (column (net_of b) u) s t K (rank_of b u s t K) (rank_costs_of b u s t K)
    unfolding rank_of rank_costs_of
    first_paths = demand_2 (net_of b).nodes (column (net_of b) u) s t (column_within (accepted_network b checks.accepted) u) checks.ends.start_in.from checks.ends.start_in.upto K

  pub kept_2 : Kept2 b u s t K rows costs work
  unfolding rank_of
  kept_2 = record { some_given = given; demand = first_paths; count = length-take K (ranked (net_of b).nodes (column (net_of b) u) s t) }
