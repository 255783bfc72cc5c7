-- `rows::write_rows` writes the entries out. The loop: the first i are written. Assumes nothing.
use Prim.Native.Nat.{ℕ, ◌+◌, ◌*◌, ◌<◌}
use native.Mathlib.Omega.{arith}
use mathlib.Core.Path.{◌≡◌, refl, sym, ◌∙◌, ap, ap₂}
use mathlib.Core.List.{List, [], ◌++◌, map}
use lib.ListN.{get_or, take, drop, length-map, get_or-map, take-append-drop}
use lib.Seq.{drop-set-lt, take_all}
use borrow.Rule.Slice.PartMut.{mid_len}
use Rattle.terms.specs.Paths.{Route}
use Rattle.candidates.specs.Slots.{Entry, none}
use Rattle.candidates.specs.Views.{listed}
use Rattle.candidates.specs.Routes.{routes}
use Rattle.listing.specs.Rows.{padded, rows_of}
use Rattle.candidates.proofs.EntryLaws.{length_entries, entries_at}
use Rattle.candidates.proofs.PartLaws.{copy_more, high_drop}
use Rattle.candidates.proofs.RootedLaws.{route_at_entries}
use Rattle.candidates.proofs.RouteLaws.{length_routes}
use Rattle.listing.proofs.RowLaws.{rows_none, row_put, family_short}
use Rattle.candidates.proofs.SlotLaws.{slot_end}
use Rattle.listing.proofs.rows.write_rows.Goals as goal

pub loop-i-init : goal.loop-i-init
loop-i-init c = (rows_none c.args.ranked.now.entries.nodes (routes c.args.ranked.now.start (listed c.args.ranked.now.entries)) c.args.rows.now, refl, refl)

pub write_row-requires : goal.write_row-requires
write_row-requires c = (c.loop-i-test.true, mid_len (c.loop-i.i * c.args.ranked.now.entries.nodes) (c.loop-i.i * c.args.ranked.now.entries.nodes + c.args.ranked.now.entries.nodes) c.loop-i.rows (omega (arith, slot_end c.args.ranked.now.entries.nodes c.loop-i-test.true)) ∙ omega arith)

pub loop-i-preserved : goal.loop-i-preserved
loop-i-preserved c =
    let E = listed c.args.ranked.now.entries in
    let C = map (λ (e : Entry). e.cost) E in
    let R = routes c.args.ranked.now.start E in
    let h : c.loop-i.i < c.args.ranked.now.entries.count = c.loop-i-test.true in
    let long = length_entries c.args.ranked.now.entries.nodes c.args.ranked.now.entries.work.now c.args.ranked.now.entries.count in
    let new : c.write_row.new.row ≡ padded c.args.ranked.now.entries.nodes (get_or R c.loop-i.i []) = c.write_row.ensures ∙ ap (padded c.args.ranked.now.entries.nodes) (route_at_entries c.args.ranked.now.start c.args.ranked.now.entries.nodes c.args.ranked.now.entries.work.now c.loop-i.i c.args.ranked.now.entries.count h) in
    let paid : c.cost.result ≡ get_or C c.loop-i.i 0 = c.cost.ensures ∙ ap (λ (e : Entry). e.cost) (sym (entries_at c.args.ranked.now.entries.nodes c.args.ranked.now.entries.work.now c.args.ranked.now.entries.count c.loop-i.i h)) ∙ sym (get_or-map (λ (e : Entry). e.cost) E c.loop-i.i none) in (
      row_put c.args.ranked.now.entries.nodes R (family_short c.args.ranked.now.start c.args.ranked.now.family) c.loop-i.i (omega (arith, long, length_routes c.args.ranked.now.start E)) c.args.rows.now c.loop-i.rows c.write_row.new.row c.loop-i.invariant.0 new,
      copy_more C c.loop-i.costs c.loop-i.i c.cost.result (omega (arith, long, length-map E (λ (e : Entry). e.cost))) (omega arith) paid c.loop-i.invariant.1,
      drop-set-lt (c.loop-i.i + 1) c.loop-i.costs c.loop-i.i c.cost.result (omega arith) ∙ high_drop c.args.costs.now c.loop-i.costs c.loop-i.i c.loop-i.invariant.2 (c.loop-i.i + 1) (omega arith),
    )

pub returns : goal.returns
returns c =
    let E = listed c.args.ranked.now.entries in
    let C = map (λ (e : Entry). e.cost) E in
    let R = routes c.args.ranked.now.start E in
    let long = length_entries c.args.ranked.now.entries.nodes c.args.ranked.now.entries.work.now c.args.ranked.now.entries.count in
    let done : c.loop-i.i ≡ c.args.ranked.now.entries.count = omega arith in
    let all : take c.loop-i.i R ≡ R = take_all c.loop-i.i R (omega (arith, long, length_routes c.args.ranked.now.start E)) in
    let paid : take c.loop-i.i C ≡ C = take_all c.loop-i.i C (omega (arith, long, length-map E (λ (e : Entry). e.cost))) in
    record { rows_after = c.loop-i.invariant.0 ∙ ap₂ (λ (x : List Route) (k : ℕ). rows_of c.args.ranked.now.entries.nodes x ++ drop (k * c.args.ranked.now.entries.nodes) c.args.rows.now) all done; costs_after = sym (take-append-drop c.loop-i.i c.loop-i.costs) ∙ ap₂ (λ (x y : List ℕ). x ++ y) (c.loop-i.invariant.1 ∙ paid) (c.loop-i.invariant.2 ∙ ap (λ (k : ℕ). drop k c.args.costs.now) done) }
