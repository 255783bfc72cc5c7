-- `rows::write_row` lays a route out and fills the row up. Assumes nothing.
use Prim.Native.Nat.{ℕ, ◌+◌, ◌≤◌}
use native.Mathlib.Omega.{arith}
use mathlib.Core.Path.{sym, ◌∙◌, ap}
use lib.ListN.{length, replicate, drop_of_length-le}
use borrow.Rule.Slice.PartMut.{mid_len, Post-is}
use Rattle.std.proofs.Common.{rules}
use Rattle.candidates.specs.Slots.{entry_at, entries}
use Rattle.candidates.specs.Routes.{route_at, Fits}
use Rattle.candidates.proofs.RootedLaws.{rooted_in, rooted_fits, route_size}
use Rattle.listing.proofs.RowLaws.{row_is}
use Rattle.listing.proofs.rows.write_row.Goals as goal

pub lay_out-requires : goal.lay_out-requires
lay_out-requires c =
    let fits : Fits c.args.ranked.now.entries.nodes (entries c.args.ranked.now.entries.nodes c.args.ranked.now.entries.work.now (c.args.place + 1)) c.args.place (entry_at c.args.ranked.now.entries.nodes c.args.ranked.now.entries.work.now c.args.place) = rooted_fits c.args.ranked.now.entries.nodes c.args.ranked.now.entries.work.now c.args.place (rooted_in c.args.ranked.now c.args.place c.requires.0) in
    record { inside = c.requires.0; count_fits = (omega (arith, fits.some), omega arith, omega (arith, fits.short)) }

pub slice_bounds-fill-count : goal.slice_bounds-fill-count
slice_bounds-fill-count c = omega (arith, (rooted_fits _ _ _ (rooted_in c.args.ranked.now c.args.place c.requires.0)).short)

pub slice_bounds-fill-start : goal.slice_bounds-fill-start
slice_bounds-fill-start c = let short = (rooted_fits _ _ _ (rooted_in c.args.ranked.now c.args.place c.requires.0)).short in search rules

pub offset_bounds-row-count : goal.offset_bounds-row-count
offset_bounds-row-count c = omega (arith, (rooted_fits _ _ _ (rooted_in c.args.ranked.now c.args.place c.requires.0)).short)

pub returns : goal.returns
returns c =
    let r = route_at c.args.ranked.now.start c.args.ranked.now.entries.nodes c.args.ranked.now.entries.work.now c.args.place in
    let path = c.lay_out.new.path in
    let k = c.length-count.result in
    let short : k ≤ length path = omega (arith, (rooted_fits _ _ _ (rooted_in c.args.ranked.now c.args.place c.requires.0)).short) in
    row_is c.args.ranked.now.entries.nodes k r c.args.row.now path c.fill.new.self _ (c.length-count.ensures ∙ sym (route_size _ _ _ (rooted_in c.args.ranked.now c.args.place c.requires.0) c.args.ranked.now.start)) (omega arith) c.lay_out.ensures
    (c.fill.ensures.after (λ y h. h) ∙ ap (λ (x : ℕ). replicate x 0) (mid_len k (length path) path (omega arith) ∙ omega arith))
    (Post-is k (length path) path short ∙ drop_of_length-le path (omega arith))
