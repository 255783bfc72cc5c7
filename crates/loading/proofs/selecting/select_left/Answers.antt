-- `selecting::select_left`: an empty map leaves all indices. Assumes nothing.
use native.Mathlib.Omega.{arith}
use mathlib.Core.Path.{◌∙◌, sym}
use Rattle.std.proofs.lemmas.Bool.{eqb-true}
use lib.ListN.{length}
use lib.Seq.{take-length}
use Rattle.loading.proofs.SelectLaws.{left_all}
use Rattle.loading.proofs.selecting.select_left.Goals as goal

pub returns-then-is_empty : goal.returns-then-is_empty
returns-then-is_empty c = (omega (arith, c.number_arcs.auto.kept), take-length c.number_arcs.new.kept ∙ c.number_arcs.ensures ∙ left_all c.args.closed.now (eqb-true _ _ (sym c.is_empty.ensures ∙ c.if-is_empty.true)) (length c.args.kept.now))
