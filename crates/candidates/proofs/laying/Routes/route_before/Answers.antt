-- `laying::Routes::route_before` lays the entry's route out, and compares its nodes. Assumes nothing.
use Prim.Native.Nat.{ℕ, ◌+◌}
use native.Mathlib.Omega.{arith}
use mathlib.Core.Path.{◌≡◌, sym, ◌∙◌, ap}
use mathlib.Core.List.{List}
use lib.ListN.{take}
use lib.Seq.{length-take-le}
use Rattle.terms.specs.Ranking.{lex}
use Rattle.candidates.specs.Slots.{entry_at, entries}
use Rattle.candidates.specs.Routes.{route_at, Fits}
use Rattle.candidates.proofs.RootedLaws.{rooted_in, rooted_fits, route_size}
use Rattle.candidates.proofs.LayingLaws.{all_laid}
use Rattle.candidates.proofs.PlacingLaws.{lex_sliced}
use Rattle.candidates.proofs.laying.Routes.route_before.Goals as goal

pub lay_out-requires : goal.lay_out-requires
lay_out-requires c =
    let fits : Fits c.args.self.now.entries.nodes (entries c.args.self.now.entries.nodes c.args.self.now.entries.work.now (c.args.place + 1)) c.args.place (entry_at c.args.self.now.entries.nodes c.args.self.now.entries.work.now c.args.place) = rooted_fits c.args.self.now.entries.nodes c.args.self.now.entries.work.now c.args.place (rooted_in c.args.self.now c.args.place c.requires.0) in
    record { inside = c.requires.0; count_fits = (omega (arith, fits.some), omega arith, omega (arith, fits.short)) }

pub slice_bounds-laid-end : goal.slice_bounds-laid-end
slice_bounds-laid-end c =
    let fits : Fits c.args.self.now.entries.nodes (entries c.args.self.now.entries.nodes c.args.self.now.entries.work.now (c.args.place + 1)) c.args.place (entry_at c.args.self.now.entries.nodes c.args.self.now.entries.work.now c.args.place) = rooted_fits c.args.self.now.entries.nodes c.args.self.now.entries.work.now c.args.place (rooted_in c.args.self.now c.args.place c.requires.0) in
    omega (arith, fits.short)

pub slice_bounds-laid-end-2 : goal.slice_bounds-laid-end-2
slice_bounds-laid-end-2 c =
    let fits : Fits c.args.self.now.entries.nodes (entries c.args.self.now.entries.nodes c.args.self.now.entries.work.now (c.args.place + 1)) c.args.place (entry_at c.args.self.now.entries.nodes c.args.self.now.entries.work.now c.args.place) = rooted_fits c.args.self.now.entries.nodes c.args.self.now.entries.work.now c.args.place (rooted_in c.args.self.now c.args.place c.requires.0) in
    sym (length-take-le c.length-count.result c.lay_out.new.path (omega (arith, fits.short)))

pub returns : goal.returns
returns c =
    let r = route_at c.args.self.now.start c.args.self.now.entries.nodes c.args.self.now.entries.work.now c.args.place in
    let laid : take c.length-count.result c.lay_out.new.path ≡ r = all_laid c.length-count.result r c.args.scratch.now c.lay_out.new.path (c.length-count.ensures ∙ sym (route_size c.args.self.now.entries.nodes c.args.self.now.entries.work.now c.args.place (rooted_in c.args.self.now c.args.place c.requires.0) c.args.self.now.start)) c.lay_out.ensures in
    lex_sliced _ _ _ c.lt.ensures ∙ ap (λ (l : List ℕ). lex l c.args.route.now) laid
