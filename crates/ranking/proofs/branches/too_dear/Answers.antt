-- `branches::too_dear` compares the bound with the last entry's cost. Assumes nothing.
use Prim.Native.Nat.{ℕ, ◌-◌}
use native.Mathlib.Omega.{arith}
use mathlib.Core.Path.{◌≡◌, sym, ◌∙◌, ap, subst}
use mathlib.Core.Logic.{⊎_elim}
use mathlib.Core.List.{List}
use lib.Dec.{ltb}
use lib.ListN.{get_or}
use borrow.Author.Tests.{ltb-true, ne_eqb}
use Rattle.terms.proofs.ListLaws.{split}
use Rattle.candidates.specs.Slots.{Entry, none}
use Rattle.candidates.specs.Views.{listed}
use Rattle.candidates.proofs.EntryLaws.{entries_at}
use Rattle.ranking.specs.Ranking.{TooDear}
use Rattle.ranking.proofs.branches.too_dear.Goals as goal

tested : (M count : ℕ) (E : List Entry) (bound dearest : ℕ) → count ≡ M → dearest ≡ (get_or E (count - 1) none).cost → TooDear M count E bound (ltb dearest bound)
tested M count E bound dearest e z =
    ⊎_elim (λ t. subst (TooDear M count E bound) (sym t) (TooDear.dear e (omega (arith, z, ltb-true dearest bound t)))) (λ t. subst (TooDear M count E bound) (sym t) TooDear.cheap) (split (ltb dearest bound))

pub returns-then-entries-slots : goal.returns-then-entries-slots
returns-then-entries-slots c =
    let l = c.args.entries.now in
    tested c.args.slots l.count _ c.args.bound _ (omega arith) (c.cost.ensures ∙ sym (ap (λ (e : Entry). e.cost) (entries_at l.nodes l.work.now l.count (l.count - 1) (omega (arith, c.requires)))))

pub returns-else-entries-slots : goal.returns-else-entries-slots
returns-else-entries-slots c =
    let l = c.args.entries.now in
    subst (TooDear c.args.slots l.count (listed l) c.args.bound) (sym (ne_eqb l.count c.args.slots c.if-entries-slots.false)) TooDear.cheap
