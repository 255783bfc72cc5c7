-- `measuring::measure`: the arcs of the path, found once, cost in each column what the path costs. Assumes nothing.
use Prim.Native.Nat.{ℕ, ◌-◌}
use native.Mathlib.Omega.{arith}
use mathlib.Core.Path.{◌∙◌, subst₂}
use mathlib.Core.List.{List}
use lib.ListN.{length}
use Rattle.terms.proofs.RoomLaws.{part_long}
use Rattle.star.specs.Layout.{tails_of, heads_of}
use Rattle.measuring.specs.Steps.{Steps}
use Rattle.measuring.proofs.StepLaws.{summed_path, measured_path}
use Rattle.measuring.proofs.measuring.measure.Goals as goal

pub greatest_excess-requires : goal.greatest_excess-requires
greatest_excess-requires c =
    let long = c.path_arcs.auto.arcs ∙ part_long 200 (length c.args.path.now - 1) (omega (arith, c.requires.from_2_to_200_nodes.1)) in
    let steps = subst₂ (λ (m : ℕ) (s : List ℕ). Steps (tails_of m s) (heads_of m s) c.args.path.now c.path_arcs.new.arcs (length c.args.path.now)) c.column.ensures.arcs c.column.ensures.star c.path_arcs.ensures in
    summed_path c.args.columns.now long steps c.args.bests.now c.requires.bests_long c.requires.from_2_to_200_nodes.1 c.requires.no_less

pub returns : goal.returns
returns c =
    let long = c.path_arcs.auto.arcs ∙ part_long 200 (length c.args.path.now - 1) (omega (arith, c.requires.from_2_to_200_nodes.1)) in
    let steps = subst₂ (λ (m : ℕ) (s : List ℕ). Steps (tails_of m s) (heads_of m s) c.args.path.now c.path_arcs.new.arcs (length c.args.path.now)) c.column.ensures.arcs c.column.ensures.star c.path_arcs.ensures in
    measured_path c.args.columns.now long steps c.args.bests.now c.requires.bests_long c.greatest_excess.ensures
