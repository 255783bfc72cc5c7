-- `columns::Columns::column`: the star with the column's costs has the column's arcs. Assumes nothing.
use mathlib.Core.Path.{sym, ◌∙◌, ap}
use Rattle.star.specs.Layout.{graph_of}
use Rattle.measuring.proofs.ColumnLaws.{column_graph}
use Rattle.measuring.proofs.columns.Columns.column.Goals as goal

pub returns-clause-graph : goal.returns-clause-graph
returns-clause-graph c = ap (graph_of c.args.self.now.star.now) c.costs_in.ensures.costs ∙ sym (column_graph c.args.self.now c.requires)
