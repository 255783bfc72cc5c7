-- The proof of the cycle of calls {descend, try_arc}. A node deeper the measure is smaller, and an arc has less than its node. Assumes nothing.
use Prim.Native.Nat.{ℕ, suc, ◌+◌, ◌≤◌, ◌<◌}
use native.Mathlib.Omega.{arith}
use mathlib.Core.Path.{◌≡◌, sym, ◌∙◌, ap}
use mathlib.Core.Bool.{Bool, true, false}
use mathlib.Core.List.{List, ◌∷◌}
use lib.ListN.{length, get_or, length-set}
use Rattle.std.specs.Prelude.{Result}
use Rattle.std.proofs.lemmas.Result.{err_from_is_err_and}
use Rattle.terms.specs.Network.{Net, weight, column}
use Rattle.terms.specs.Regret.{figure}
use Rattle.descent.specs.Rule.{State, one_more, dropped, laid}
use Rattle.descent.specs.declared.columns.Columns.{Columns}
use Rattle.descent.specs.declared.depth.Task.{Task}
use Rattle.descent.specs.declared.depth.Partial.{Partial}
use Rattle.descent.specs.declared.depth.Held.{Held}
use Rattle.descent.specs.declared.depth.Cut.{Cut}
use Rattle.descent.specs.Rows.{Drops, at_row}
use Rattle.descent.specs.Depth.{Begun, heads_in, outs_in, GivenIn, Ends, goes, stopped, at_arc}
use Rattle.descent.proofs.RowLaws.{low_more}
use Rattle.descent.proofs.StarLaws.{heads_long, head_is, head_from, head_in, begins_at, ends_at, ends_in, star_drops, star_longer}
use Rattle.descent.proofs.TableLaws.{drops_is, kept_open, figure_is}
use Rattle.descent.proofs.StepLaws.{flag_on, flag_off, more_room, begun_more, kept_back, matches_counted, given_more, at_used, at_full, at_dropped, at_taken, route_is, ends_as}
use Rattle.descent.proofs.SweepLaws.{descend_arrived, descend_onward, kept_both, begun_kept, given_kept, leads_on, leads_cut, leads_end}
use Rattle.descent.proofs.depth.+descend_try_arc.Goals as goal

-- the rule at the node is the rule at the arc's head
at_node : (limit left : ℕ) (net : Net) (s' t' v : ℕ) (seen : List ℕ) (z : State) {node head : ℕ} {path : List ℕ} {r : Result Held Cut} → node ≡ head
    → Ends path (at_arc limit left net s' t' seen v node z) r → Ends path (at_arc limit left net s' t' seen v head z) r
at_node limit left net s' t' v seen z e x = ends_as (ap (λ (h : ℕ). at_arc limit left net s' t' seen v h z) (sym e)) x

-- node h is the head of arc i, out of the last node of the partial route
module _ (C : Columns) (task : Task) (p : Partial) (i h : ℕ) (l : i < C.arcs) (e : h ≡ get_or C.star.now (C.arcs + i) 0) where
  module _ {net : Net} {s' t' v : ℕ} {seen : List ℕ} {z : State} {route path : List ℕ} {used : List Bool} {held : Held} {r : Bool}
      (g : GivenIn net s' t' seen z C task p v route path held) (b : Begun C.places route used path p.sums p.depth) (v-in : v < C.places) (from : get_or (outs_in C) v 0 ≤ i) (to : i < get_or (outs_in C) (v + 1) 0)
      (drops : Drops C.arcs C.places i h C.costs.now C.labels.now C.bests.now p.sums held.figure r) where
    few : p.depth ≤ 200
    few = omega (arith, b.room, C.fits.ground.few)

    i-in : i < length (heads_in C)
    i-in = omega (arith, heads_long C.fits)

    -- the rule drops it exactly if the code does
    rule_drops : dropped net s' t' (laid seen v) v h z.found ≡ r
    rule_drops = ap (λ (x : ℕ). dropped net s' t' (laid seen v) v x z.found) (head_is C.fits l e) ∙ drops_is g C.fits.ground few b.sums_low i v-in from to i-in (star_drops C.fits (head_is C.fits l e) drops)

    -- and if it doesn't, the arc is open in each column, at its cost
    weighs : r ≡ false → (u : ℕ) → u < length C.bests.now → weight (column net (suc u)) v h ≡ at_row (length (heads_in C)) C.costs.now u i
    weighs k u m = ap (λ (x : ℕ). weight (column net (suc u)) v x) (head_is C.fits l e) ∙ kept_open g C.fits.ground few b.sums_low i v-in from to i-in (star_drops C.fits (head_is C.fits l e) drops) k u m

pub descend-returns-then-v-task-clause-ends : goal.descend-returns-then-v-task-clause-ends
descend-returns-then-v-task-clause-ends t c = λ net s' t' seen z g.
    ends_as (descend_arrived c.args.task.limit g (omega (arith, c.requires.begun.room)) c.if-v-task.true)
    (goes (c.complete.ensures (figure net s' t') z (ap (figure net s' t') (route_is c.args.route.now c.args.partial.now.depth g.nodes_are) ∙ figure_is g) g.matches))

pub descend-try_arc-requires : goal.descend-try_arc-requires
descend-try_arc-requires t c = (
  omega (arith, c.decreases),
  (begun_kept c.requires.begun c.loop-i.invariant.kept c.loop-i.auto.route c.loop-i.auto.path, omega (arith, ends_in c.args.columns.now.fits c.requires.node_inside c.from-to.ensures, heads_long c.args.columns.now.fits, c.loop-i-test.true)),
)

pub descend-returns-in_err-now-clause-ends : goal.descend-returns-in_err-now-clause-ends
descend-returns-in_err-now-clause-ends t c =
    let fits = c.args.columns.now.fits in
    let begins = begins_at fits c.requires.node_inside c.from-from.ensures in
    let ends = ends_at fits c.requires.node_inside c.from-to.ensures in
    let p = err_from_is_err_and c.from_residual.result c.from_residual.ensures.1 in
    rw p.1
    (λ net s' t' seen z g. let d = c.loop-i.invariant.leads net s' t' seen z g in
    ends_as
    (descend_onward c.args.task.limit g (omega (arith, c.requires.begun.room)) _ _ c.if-v-task.false c.requires.node_inside begins ends
    ∙ leads_cut d c.loop-i-test.true (ends_in fits c.requires.node_inside c.from-to.ensures)
    (c.in_err-now.ensures.ends net s' t' c.args.v seen d.now c.requires.node_inside (omega (arith, begins, c.loop-i.auto.i)) (omega (arith, ends, c.loop-i-test.true)) (given_kept g c.loop-i.invariant.kept d.matches)))
    stopped)

pub descend-loop-i-preserved : goal.descend-loop-i-preserved
descend-loop-i-preserved t c =
    let fits = c.args.columns.now.fits in
    let begins = begins_at fits c.requires.node_inside c.from-from.ensures in
    let ends = ends_at fits c.requires.node_inside c.from-to.ensures in
    record {
      kept = kept_both c.loop-i.invariant.kept c.in_ok-now.ensures.kept;
      leads = λ net s' t' seen z g. let d = c.loop-i.invariant.leads net s' t' seen z g in
          leads_on d c.loop-i-test.true (ends_in fits c.requires.node_inside c.from-to.ensures)
          (c.in_ok-now.ensures.ends net s' t' c.args.v seen d.now c.requires.node_inside (omega (arith, begins, c.loop-i.auto.i)) (omega (arith, ends, c.loop-i-test.true)) (given_kept g c.loop-i.invariant.kept d.matches));
    }

pub descend-returns-clause-ends : goal.descend-returns-clause-ends
descend-returns-clause-ends t c =
    let begins = begins_at c.args.columns.now.fits c.requires.node_inside c.from-from.ensures in
    let ends = ends_at c.args.columns.now.fits c.requires.node_inside c.from-to.ensures in
    λ net s' t' seen z g. let d = c.loop-i.invariant.leads net s' t' seen z g in
    ends_as (descend_onward c.args.task.limit g (omega (arith, c.requires.begun.room)) _ _ c.if-v-task.false c.requires.node_inside begins ends ∙ leads_end d c.loop-i-test.false) (goes d.matches)

pub try_arc-bounds-used-h : goal.try_arc-bounds-used-h
try_arc-bounds-used-h t c = omega (arith, head_in c.args.columns.now.fits c.requires.arc_inside c.from-h.ensures, c.requires.begun.used_long)

pub try_arc-returns-then-used-h-clause-ends : goal.try_arc-returns-then-used-h-clause-ends
try_arc-returns-then-used-h-clause-ends t c = λ net s' t' v seen z l from to g.
    let on = rw g.nodes_are at (flag_on c.from-h.result c.requires.begun.flagged c.if-used-h.true) in
    at_node c.args.task.limit _ net s' t' v seen z (head_is c.args.columns.now.fits c.requires.arc_inside c.from-h.ensures)
    (ends_as (at_used c.args.task.limit _ net s' t' seen v c.from-h.result z on) (goes g.matches))

pub try_arc-returns-then-from-held-clause-ends : goal.try_arc-returns-then-from-held-clause-ends
try_arc-returns-then-from-held-clause-ends t c = λ net s' t' v seen z l from to g.
    let off = rw g.nodes_are at (flag_off c.from-h.result c.requires.begun.flagged c.if-used-h.false) in
    at_node c.args.task.limit _ net s' t' v seen z (head_is c.args.columns.now.fits c.requires.arc_inside c.from-h.ensures)
    (ends_as (at_full c.args.task.limit _ net s' t' seen v c.from-h.result z off (omega (arith, g.matches.tried_is, c.from.ensures, c.if-from-held.true))) stopped)

pub try_arc-drops-requires : goal.try_arc-drops-requires
try_arc-drops-requires t c = (
  c.requires.arc_inside,
  head_in c.args.columns.now.fits c.requires.arc_inside c.from-h.ensures,
  low_more (omega (arith, c.requires.begun.room, c.args.columns.now.fits.ground.few)) c.requires.begun.sums_low,
)

pub try_arc-returns-then-drops-clause-ends : goal.try_arc-returns-then-drops-clause-ends
try_arc-returns-then-drops-clause-ends t c = λ net s' t' v seen z l from to g.
    let off = rw g.nodes_are at (flag_off c.from-h.result c.requires.begun.flagged c.if-used-h.false) in
    at_node c.args.task.limit _ net s' t' v seen z (head_is c.args.columns.now.fits c.requires.arc_inside c.from-h.ensures)
    (ends_as
    (at_dropped c.args.task.limit _ net s' t' seen v c.from-h.result z off (omega (arith, g.matches.tried_is, c.from.ensures, c.if-from-held.false))
    (rule_drops c.args.columns.now c.args.task c.args.partial.now c.args.i c.from-h.result c.requires.arc_inside c.from-h.ensures g c.requires.begun l from to c.drops.ensures ∙ c.if-drops.true))
    (goes (matches_counted g.matches)))

pub try_arc-bounds-used-h-2 : goal.try_arc-bounds-used-h-2
try_arc-bounds-used-h-2 t c = omega (arith, head_in c.args.columns.now.fits c.requires.arc_inside c.from-h.ensures, c.requires.begun.used_long)

pub try_arc-bounds-route-partial : goal.try_arc-bounds-route-partial
try_arc-bounds-route-partial t c =
    let fits = c.args.columns.now.fits in
    omega (arith, more_room c.from-h.result c.requires.begun (head_from fits c.requires.arc_inside c.from-h.ensures) (head_in fits c.requires.arc_inside c.from-h.ensures) c.if-used-h.false, c.requires.begun.route_long)

pub try_arc-descend-run-requires : goal.try_arc-descend-run-requires
try_arc-descend-run-requires t c =
    let fits = c.args.columns.now.fits in
    let from = head_from fits c.requires.arc_inside c.from-h.ensures in
    let inside = head_in fits c.requires.arc_inside c.from-h.ensures in (
      omega (arith, c.decreases, more_room c.from-h.result c.requires.begun from inside c.if-used-h.false),
      (rw (← c.from-h.ensures) (begun_more c.from-h.result c.requires.begun from inside c.if-used-h.false (c.lengthen.ensures.low c.args.partial.now.depth c.requires.begun.sums_low)), inside),
    )

pub try_arc-bounds-used-h-3 : goal.try_arc-bounds-used-h-3
try_arc-bounds-used-h-3 t c = omega (arith, head_in c.args.columns.now.fits c.requires.arc_inside c.from-h.ensures, c.requires.begun.used_long, ap length c.descend-run.ensures.kept.flags, length-set c.args.used.now c.from-h.result true)

pub try_arc-returns-clause-kept : goal.try_arc-returns-clause-kept
try_arc-returns-clause-kept t c =
    let fits = c.args.columns.now.fits in
    kept_back c.from-h.result c.requires.begun (head_from fits c.requires.arc_inside c.from-h.ensures) (head_in fits c.requires.arc_inside c.from-h.ensures) c.if-used-h.false (rw (← c.from-h.ensures) at c.descend-run.ensures.kept)

pub try_arc-returns-clause-ends : goal.try_arc-returns-clause-ends
try_arc-returns-clause-ends t c = λ net s' t' v seen z l from to g.
    let fits = c.args.columns.now.fits in
    let off = rw g.nodes_are at (flag_off c.from-h.result c.requires.begun.flagged c.if-used-h.false) in
    let deeper = rw (← c.from-h.ensures) at (c.descend-run.ensures.ends net s' t' (v ∷ seen) (one_more z)) in
    let room = more_room c.from-h.result c.requires.begun (head_from fits c.requires.arc_inside c.from-h.ensures) (head_in fits c.requires.arc_inside c.from-h.ensures) c.if-used-h.false in
    at_node c.args.task.limit _ net s' t' v seen z (head_is fits c.requires.arc_inside c.from-h.ensures)
    (ends_as
    (at_taken c.args.task.limit _ net s' t' seen v c.from-h.result z off (omega (arith, g.matches.tried_is, c.from.ensures, c.if-from-held.false))
    (rule_drops c.args.columns.now c.args.task c.args.partial.now c.args.i c.from-h.result c.requires.arc_inside c.from-h.ensures g c.requires.begun l from to c.drops.ensures ∙ c.if-drops.false))
    (deeper
    (given_more c.from-h.result g c.args.i (omega (arith, room, c.requires.begun.route_long)) (star_longer fits c.lengthen.ensures)
    (weighs c.args.columns.now c.args.task c.args.partial.now c.args.i c.from-h.result c.requires.arc_inside c.from-h.ensures g c.requires.begun l from to c.drops.ensures c.if-drops.false))))
