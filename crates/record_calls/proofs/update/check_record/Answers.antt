-- `record_calls::update::check_record`: each return is the first of rows 17, 18 and 9 that applies. Assumes nothing.
use mathlib.Core.Path.{◌≡◌, sym, ◌∙◌}
use mathlib.Core.Bool.{◌&&◌}
use lib.Dec.{leb}
use borrow.Author.Tests.{lt-ltb, le-ltb}
use Rattle.std.proofs.Common.{rules}
use Rattle.image.specs.Outcome.{row, ◌then◌}
use Rattle.record_calls.specs.Calls.{place, record_fault}
use Rattle.record_calls.proofs.update.check_record.Goals as goal

pub returns-then-sizes-arc : goal.returns-then-sizes-arc
unfolding record_fault row ◌then◌ place
returns-then-sizes-arc c = λ stamp. simp (le-ltb _ _ c.if-sizes-arc.true)

pub returns-then-not-contains : goal.returns-then-not-contains
unfolding record_fault row ◌then◌ place
returns-then-not-contains c =
    let told : c.contains.result ≡ (leb 1 c.args.column && leb c.args.column c.args.sizes.k) = search rules in
    λ stamp. simp (lt-ltb _ _ c.if-sizes-arc.false, sym told ∙ c.if-not-contains.true)

pub returns-then-not-is_cost : goal.returns-then-not-is_cost
unfolding record_fault row ◌then◌ place
returns-then-not-is_cost c =
    let told : c.contains.result ≡ (leb 1 c.args.column && leb c.args.column c.args.sizes.k) = search rules in
    λ stamp. simp (lt-ltb _ _ c.if-sizes-arc.false, sym told ∙ c.if-not-contains.false, sym c.if-not-is_cost.ensures)

pub returns : goal.returns
unfolding record_fault row ◌then◌ place
returns c =
    let told : c.contains.result ≡ (leb 1 c.args.column && leb c.args.column c.args.sizes.k) = search rules in
    λ stamp. simp (lt-ltb _ _ c.if-sizes-arc.false, sym told ∙ c.if-not-contains.false, sym c.if-not-is_cost.ensures)
