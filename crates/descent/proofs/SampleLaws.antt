-- docs/REFERENCE.md, section 8: Search on network S. Assumes nothing.
use Rattle.std.specs.Prelude.{◌≡◌, refl}
use mathlib.Core.List.{[], ◌∷◌, flat_map}
use Rattle.terms.specs.Lists.{elem, keep, least, largest, index, numbers}
use Rattle.terms.specs.Network.{heads, linked, weight, weigh, open_arcs, cost_column, column}
use Rattle.terms.specs.Paths.{cost_from, cost, exits, walks, paths}
use Rattle.terms.specs.Regret.{best, label, deviation, deviations, figure, worst}
use Rattle.terms.specs.Starred.{S}
use Rattle.descent.specs.Rule.{every, each, drawn, held, better, complete, one_more, ahead, outlook, hopeless, passable_in, passable, dropped, laid, try, descend, search}

-- from 1 to 4 it finds 1 2 4 with figure 3, and tries all 5 arcs
pub on_S : search S 1 4 ≡ record { found = held (1 ∷ 2 ∷ 4 ∷ []) 3; tried = 5 }
unfolding elem keep every each flat_map least largest numbers heads linked weight weigh open_arcs cost_column column drawn cost_from cost exits walks paths best label deviation deviations figure better complete one_more ahead outlook hopeless passable_in passable dropped laid try descend search
on_S = refl

-- and its worst column is 1
pub worst_on_S : worst S 1 4 (1 ∷ 2 ∷ 4 ∷ []) ≡ 1
unfolding elem keep flat_map least largest index numbers heads linked weight weigh open_arcs cost_column column cost_from cost exits walks paths best label deviation deviations figure worst
worst_on_S = refl
