-- `counting::count_path`: the path is laid out in a local array and measured, and the test decides who leads. Assumes nothing.
use native.Mathlib.Omega.{arith}
use mathlib.Core.Path.{sym, ◌∙◌, ap}
use Rattle.terms.proofs.RoomLaws.{part_long}
use Rattle.candidates.proofs.RootedLaws.{rooted_in}
use Rattle.choosing.specs.Contests.{figure_in, worst_in}
use Rattle.choosing.proofs.FindingLaws.{len_some, path_room, path_laid}
use Rattle.choosing.proofs.LeaderLaws.{counted_better, counted_same}
use Rattle.choosing.proofs.PricedLaws.{measurable_in}
use Rattle.choosing.proofs.counting.count_path.Goals as goal

-- the path has its place in the array
pub slice_bounds-room-end : goal.slice_bounds-room-end
slice_bounds-room-end c = path_room c.args.ranked.now c.args.rank c.requires.inside c.length-len.ensures

pub slice_bounds-path-end : goal.slice_bounds-path-end
slice_bounds-path-end c = sym (part_long 200 _ (path_room c.args.ranked.now c.args.rank c.requires.inside c.length-len.ensures))

pub lay_out-requires-clause-count_fits : goal.lay_out-requires-clause-count_fits
lay_out-requires-clause-count_fits c =
    let long = part_long 200 c.length-len.result (path_room c.args.ranked.now c.args.rank c.requires.inside c.length-len.ensures) in
    (len_some (rooted_in c.args.ranked.now c.args.rank c.requires.inside) c.length-len.ensures, omega (arith, c.length-len.ensures), omega (arith, long))

-- what is measured is the path
pub measure-found-requires : goal.measure-found-requires
measure-found-requires c =
    let x = c.args.contest.now in
    let long = part_long 200 c.length-len.result (path_room c.args.ranked.now c.args.rank c.requires.inside c.length-len.ensures) in
    let laid = path_laid c.args.ranked.now c.args.rank c.requires.inside c.length-len.ensures _ c.lay_out.new.path (c.lay_out.auto.path ∙ long) c.lay_out.ensures in
    let m = measurable_in x laid c.requires.is_path in
    record { bests_long = x.posed.priced.bests_long; by_arcs = m.0; from_2_to_200_nodes = m.1.0; no_less = m.1.1 }

pub returns-then-found-limit : goal.returns-then-found-limit
returns-then-found-limit c =
    let x = c.args.contest.now in
    let long = part_long 200 c.length-len.result (path_room c.args.ranked.now c.args.rank c.requires.inside c.length-len.ensures) in
    let laid = path_laid c.args.ranked.now c.args.rank c.requires.inside c.length-len.ensures _ c.lay_out.new.path (c.lay_out.auto.path ∙ long) c.lay_out.ensures in
    let E = c.measure-found.ensures.exact c.if-found-limit.true in
    record { no_more = omega (arith, c.if-found-limit.true); leads = λ ps h e L. counted_better c.args.rank L h (E.0 ∙ ap (figure_in x) (laid ∙ sym e)) (E.1 ∙ ap (worst_in x) (laid ∙ sym e)) c.if-found-limit.true }

pub returns : goal.returns
returns c =
    let x = c.args.contest.now in
    let long = part_long 200 c.length-len.result (path_room c.args.ranked.now c.args.rank c.requires.inside c.length-len.ensures) in
    let laid = path_laid c.args.ranked.now c.args.rank c.requires.inside c.length-len.ensures _ c.lay_out.new.path (c.lay_out.auto.path ∙ long) c.lay_out.ensures in
    record { no_more = omega arith; leads = λ ps h e L. counted_same c.args.rank L h (ap (figure_in x) (laid ∙ sym e)) (c.measure-found.ensures.beyond c.if-found-limit.false) }
