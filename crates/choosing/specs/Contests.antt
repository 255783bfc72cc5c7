-- What a contest's answer is made of: the paths that are ranked, and their deviations, figures and worst columns. Assumes nothing.
use Rattle.std.specs.Prelude.{ℕ, ◌-◌, List, get_or}
use Rattle.terms.specs.Network.{Graph}
use Rattle.terms.specs.Paths.{Route, cost}
use Rattle.terms.specs.Ranking.{ranked}
use Rattle.terms.specs.Regret.{figure_over, worst_over}
use Rattle.terms.specs.Robust.{Answer, robust_over}
use Rattle.star.specs.Graphs.{arcs_of}
use Rattle.measuring.specs.Networks.{network_of}
use Rattle.choosing.specs.declared.contest.Contest.{Contest}

-- ---- the column in which paths are ranked
abbrev pub nodes_in : Contest → ℕ
nodes_in x = x.query.graph.nodes

abbrev pub graph_in : Contest → Graph
graph_in x = arcs_of x.query.graph

abbrev pub ranked_in : Contest → List Route
ranked_in x = ranked (nodes_in x) (graph_in x) x.query.start x.query.goal

-- its best, and what a path costs beyond it
abbrev pub low_in : Contest → ℕ
low_in x = get_or x.bests.now (x.column - 1) 0

abbrev pub deviation_in : Contest → Route → ℕ
deviation_in x p = cost (graph_in x) p - low_in x

-- ---- all columns
abbrev pub figure_in : Contest → Route → ℕ
figure_in x = figure_over (network_of x.columns) x.bests.now

abbrev pub worst_in : Contest → Route → ℕ
worst_in x = worst_over (network_of x.columns) x.bests.now

-- ---- Robust's answer
abbrev pub answer_in : Contest → Answer
answer_in x = robust_over (network_of x.columns) x.bests.now x.column x.query.start x.query.goal x.wanted
