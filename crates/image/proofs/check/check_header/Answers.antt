-- `image::check::check_header` meets its contract. Assumes nothing.
use Prim.Native.Nat.{◌≤◌}
use lib.ListN.{length}
use Rattle.image.specs.Outcome.{gives, outcome}
use mathlib.Core.Path.{◌≡◌, sym, ◌∙◌, ap}
use mathlib.Core.Bool.{true, ◌&&◌}
use lib.Dec.{leb}
use Rattle.image.specs.Rows.{in_range}
use Rattle.image.specs.Layout.{edition, node_count, arc_count, column_count, fields_right, total}
use Rattle.image.proofs.CheckLaws.{row_1, row_2, row_3, row_4, row_5, rows_pass, in_range_true, same_sizes}
use Rattle.image.proofs.check.check_header.Goals as goal

pub returns-then-image-lt24 : goal.returns-then-image-lt24
unfolding outcome
returns-then-image-lt24 c = rw (row_1 c.args.latest c.args.image.now c.if-image-lt24.true)

pub returns-then-not-is_taken : goal.returns-then-not-is_taken
unfolding outcome edition
returns-then-not-is_taken c =
    let e_is : c.from-edition.result ≡ edition c.args.image.now = c.from-edition.ensures ∙ c.read.ensures in
    let taken_is : c.is_taken.result ≡ (leb 1 (edition c.args.image.now) && leb (edition c.args.image.now) c.args.latest) = rw (← e_is) c.is_taken.ensures in
    rw (row_2 c.args.latest c.args.image.now c.if-image-lt24.false (sym taken_is ∙ c.if-not-is_taken.true))

pub returns-then-not-in_range : goal.returns-then-not-in_range
unfolding outcome edition node_count arc_count column_count
returns-then-not-in_range c =
    let long : 24 ≤ length c.args.image.now = c.if-image-lt24.false in
    let e_is : c.from-edition.result ≡ edition c.args.image.now = c.from-edition.ensures ∙ c.read.ensures in
    let taken_is : c.is_taken.result ≡ (leb 1 (edition c.args.image.now) && leb (edition c.args.image.now) c.args.latest) = rw (← e_is) c.is_taken.ensures in
    let taken : (leb 1 (edition c.args.image.now) && leb (edition c.args.image.now) c.args.latest) ≡ true = sym taken_is ∙ c.if-not-is_taken.false in
    let n_is : c.from-n.result ≡ node_count c.args.image.now = c.from-n.ensures ∙ c.read-2.ensures in
    let m_is : c.from-m.result ≡ arc_count c.args.image.now = c.from-m.ensures ∙ c.read-3.ensures in
    let k_is : c.from-k.result ≡ column_count c.args.image.now = c.from-k.ensures ∙ c.read-4.ensures in
    let ranges_is : c.in_range.result ≡ in_range (node_count c.args.image.now) (arc_count c.args.image.now) (column_count c.args.image.now) = rw (← n_is, ← m_is, ← k_is) c.in_range.ensures in
    rw (row_3 c.args.latest c.args.image.now long taken (sym ranges_is ∙ c.if-not-in_range.true))

pub fields_right-requires : goal.fields_right-requires
unfolding arc_count column_count node_count
fields_right-requires c =
    let long : 24 ≤ length c.args.image.now = c.if-image-lt24.false in
    let m_is : c.from-m.result ≡ arc_count c.args.image.now = c.from-m.ensures ∙ c.read-3.ensures in
    let k_is : c.from-k.result ≡ column_count c.args.image.now = c.from-k.ensures ∙ c.read-4.ensures in
    let n_is : c.from-n.result ≡ node_count c.args.image.now = c.from-n.ensures ∙ c.read-2.ensures in
    let ranges_is : c.in_range.result ≡ in_range (node_count c.args.image.now) (arc_count c.args.image.now) (column_count c.args.image.now) = rw (← n_is, ← m_is, ← k_is) c.in_range.ensures in
    let ranges : in_range (node_count c.args.image.now) (arc_count c.args.image.now) (column_count c.args.image.now) ≡ true = sym ranges_is ∙ c.if-not-in_range.false in
    let r = in_range_true ranges in
    let e = m_is in
    let f = k_is in
    (long, rw e r.arcs_to, rw f r.columns_to)

pub returns-then-not-fields_right : goal.returns-then-not-fields_right
unfolding outcome edition node_count arc_count column_count
returns-then-not-fields_right c =
    let long : 24 ≤ length c.args.image.now = c.if-image-lt24.false in
    let e_is : c.from-edition.result ≡ edition c.args.image.now = c.from-edition.ensures ∙ c.read.ensures in
    let taken_is : c.is_taken.result ≡ (leb 1 (edition c.args.image.now) && leb (edition c.args.image.now) c.args.latest) = rw (← e_is) c.is_taken.ensures in
    let taken : (leb 1 (edition c.args.image.now) && leb (edition c.args.image.now) c.args.latest) ≡ true = sym taken_is ∙ c.if-not-is_taken.false in
    let n_is : c.from-n.result ≡ node_count c.args.image.now = c.from-n.ensures ∙ c.read-2.ensures in
    let m_is : c.from-m.result ≡ arc_count c.args.image.now = c.from-m.ensures ∙ c.read-3.ensures in
    let k_is : c.from-k.result ≡ column_count c.args.image.now = c.from-k.ensures ∙ c.read-4.ensures in
    let ranges_is : c.in_range.result ≡ in_range (node_count c.args.image.now) (arc_count c.args.image.now) (column_count c.args.image.now) = rw (← n_is, ← m_is, ← k_is) c.in_range.ensures in
    let ranges : in_range (node_count c.args.image.now) (arc_count c.args.image.now) (column_count c.args.image.now) ≡ true = sym ranges_is ∙ c.if-not-in_range.false in
    let fields_is : c.fields_right.result ≡ fields_right c.args.image.now (arc_count c.args.image.now) (column_count c.args.image.now) = rw (← m_is, ← k_is) c.fields_right.ensures in
    rw (row_4 c.args.latest c.args.image.now long taken ranges (sym fields_is ∙ c.if-not-fields_right.true))

pub image_length-requires : goal.image_length-requires
unfolding arc_count column_count node_count
image_length-requires c =
    let m_is : c.from-m.result ≡ arc_count c.args.image.now = c.from-m.ensures ∙ c.read-3.ensures in
    let k_is : c.from-k.result ≡ column_count c.args.image.now = c.from-k.ensures ∙ c.read-4.ensures in
    let n_is : c.from-n.result ≡ node_count c.args.image.now = c.from-n.ensures ∙ c.read-2.ensures in
    let ranges_is : c.in_range.result ≡ in_range (node_count c.args.image.now) (arc_count c.args.image.now) (column_count c.args.image.now) = rw (← n_is, ← m_is, ← k_is) c.in_range.ensures in
    let ranges : in_range (node_count c.args.image.now) (arc_count c.args.image.now) (column_count c.args.image.now) ≡ true = sym ranges_is ∙ c.if-not-in_range.false in
    let r = in_range_true ranges in
    let e = m_is in
    let f = k_is in
    (rw e r.arcs_to, rw f r.columns_to)

pub returns-then-image-image_length : goal.returns-then-image-image_length
unfolding outcome edition node_count arc_count column_count
returns-then-image-image_length c =
    let long : 24 ≤ length c.args.image.now = c.if-image-lt24.false in
    let e_is : c.from-edition.result ≡ edition c.args.image.now = c.from-edition.ensures ∙ c.read.ensures in
    let taken_is : c.is_taken.result ≡ (leb 1 (edition c.args.image.now) && leb (edition c.args.image.now) c.args.latest) = rw (← e_is) c.is_taken.ensures in
    let taken : (leb 1 (edition c.args.image.now) && leb (edition c.args.image.now) c.args.latest) ≡ true = sym taken_is ∙ c.if-not-is_taken.false in
    let n_is : c.from-n.result ≡ node_count c.args.image.now = c.from-n.ensures ∙ c.read-2.ensures in
    let m_is : c.from-m.result ≡ arc_count c.args.image.now = c.from-m.ensures ∙ c.read-3.ensures in
    let k_is : c.from-k.result ≡ column_count c.args.image.now = c.from-k.ensures ∙ c.read-4.ensures in
    let ranges_is : c.in_range.result ≡ in_range (node_count c.args.image.now) (arc_count c.args.image.now) (column_count c.args.image.now) = rw (← n_is, ← m_is, ← k_is) c.in_range.ensures in
    let ranges : in_range (node_count c.args.image.now) (arc_count c.args.image.now) (column_count c.args.image.now) ≡ true = sym ranges_is ∙ c.if-not-in_range.false in
    let fields_is : c.fields_right.result ≡ fields_right c.args.image.now (arc_count c.args.image.now) (column_count c.args.image.now) = rw (← m_is, ← k_is) c.fields_right.ensures in
    let fields : fields_right c.args.image.now (arc_count c.args.image.now) (column_count c.args.image.now) ≡ true = sym fields_is ∙ c.if-not-fields_right.false in
    let total_is : c.image_length.result ≡ total (arc_count c.args.image.now) (column_count c.args.image.now) = rw (← m_is, ← k_is) c.image_length.ensures in
    let other : length c.args.image.now ≡ c.image_length.result → ⊥ = c.if-image-image_length.true in
    rw (row_5 c.args.latest c.args.image.now long taken ranges fields (λ w. other (w ∙ sym total_is)))

pub returns : goal.returns
unfolding outcome edition node_count arc_count column_count
returns c =
    let e_is : c.from-edition.result ≡ edition c.args.image.now = c.from-edition.ensures ∙ c.read.ensures in
    let long : 24 ≤ length c.args.image.now = c.if-image-lt24.false in
    let taken_is : c.is_taken.result ≡ (leb 1 (edition c.args.image.now) && leb (edition c.args.image.now) c.args.latest) = rw (← e_is) c.is_taken.ensures in
    let taken : (leb 1 (edition c.args.image.now) && leb (edition c.args.image.now) c.args.latest) ≡ true = sym taken_is ∙ c.if-not-is_taken.false in
    let n_is : c.from-n.result ≡ node_count c.args.image.now = c.from-n.ensures ∙ c.read-2.ensures in
    let m_is : c.from-m.result ≡ arc_count c.args.image.now = c.from-m.ensures ∙ c.read-3.ensures in
    let k_is : c.from-k.result ≡ column_count c.args.image.now = c.from-k.ensures ∙ c.read-4.ensures in
    let ranges_is : c.in_range.result ≡ in_range (node_count c.args.image.now) (arc_count c.args.image.now) (column_count c.args.image.now) = rw (← n_is, ← m_is, ← k_is) c.in_range.ensures in
    let ranges : in_range (node_count c.args.image.now) (arc_count c.args.image.now) (column_count c.args.image.now) ≡ true = sym ranges_is ∙ c.if-not-in_range.false in
    let fields_is : c.fields_right.result ≡ fields_right c.args.image.now (arc_count c.args.image.now) (column_count c.args.image.now) = rw (← m_is, ← k_is) c.fields_right.ensures in
    let fields : fields_right c.args.image.now (arc_count c.args.image.now) (column_count c.args.image.now) ≡ true = sym fields_is ∙ c.if-not-fields_right.false in
    let total_is : c.image_length.result ≡ total (arc_count c.args.image.now) (column_count c.args.image.now) = rw (← m_is, ← k_is) c.image_length.ensures in
    rw (rows_pass c.args.latest c.args.image.now long taken ranges fields (c.if-image-image_length.false ∙ total_is)) (ap gives (same_sizes _ (record { n_is = n_is; m_is = m_is; k_is = k_is; e_is = e_is })))
