-- The starred cases (docs/REFERENCE.md, section 8.3) all hold: by computing the terms. Assumes nothing.
use Rattle.std.specs.Prelude.{refl}
use mathlib.Core.List.{flat_map}
use Rattle.terms.specs.Lists.{elem, keep, pick, least, largest, index, numbers, smallest}
use Rattle.terms.specs.Network.{heads, linked, weight, weigh, open_arcs, cost_column, column, restrict, open_everywhere, common}
use Rattle.terms.specs.Paths.{cost_from, cost, exits, walks, paths}
use Rattle.terms.specs.Ranking.{by_first, lex, before, insert, sort, ranked}
use Rattle.terms.specs.Regret.{best, label, labels, deviation, deviations, figure, worst, fault_after, fault, open_fault}
use Rattle.terms.specs.Robust.{least_figure, enough, needed, choice, answer, robust}
use Rattle.terms.specs.Starred.{Starred}

pub starred : Starred
unfolding elem keep pick flat_map least largest index numbers smallest heads linked weight weigh open_arcs cost_column column restrict open_everywhere common cost_from cost exits walks paths by_first lex before insert sort ranked best label labels deviation deviations figure worst fault_after fault open_fault least_figure enough needed choice answer robust
starred = record {
  rank_1 = refl;
  rank_1_costs = refl;
  rank_1_count = refl;
  rank_2 = refl;
  rank_2_costs = refl;
  label_1 = refl;
  figure_1_2_4 = refl;
  figure_1_3_4 = refl;
  figure_1_2_3_4 = refl;
  robust_1_2 = refl;
  robust_1_1 = refl;
  robust_2_1 = refl;
  none_from_4 = λ K. (refl, refl);
  list_1_2 = refl;
  list_1_4 = refl;
  zero_rank = refl;
  zero_count = refl;
}
