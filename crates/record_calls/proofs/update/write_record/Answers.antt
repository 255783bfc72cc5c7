-- `record_calls::update::write_record` meets its contract. Assumes nothing.
use mathlib.Core.Path.{◌≡◌, refl, sym, ◌∙◌, ap}
use mathlib.Core.Bool.{Bool, true, false, cond}
use mathlib.Core.List.{List}
use Prim.Native.Nat.{ℕ}
use borrow.Author.Tests.{le-leb, lt-leb}
use Rattle.record_calls.proofs.update.write_record.Goals as goal

taken : {b : Bool} {x z : List ℕ} (y : List ℕ) → b ≡ true → z ≡ x → z ≡ cond b x y
taken {x = x} y h e = e ∙ sym (ap (λ (t : Bool). cond t x y) h)

left : {b : Bool} {y z : List ℕ} (x : List ℕ) → b ≡ false → z ≡ y → z ≡ cond b x y
left {y = y} x h e = e ∙ sym (ap (λ (t : Bool). cond t x y) h)

pub returns-then-stamps-place : goal.returns-then-stamps-place
returns-then-stamps-place c =
    let t = le-leb _ _ c.if-stamps-place.true in
    record { stamps_after = taken _ t refl; image_after = taken _ t c.write.ensures }

pub returns-else-stamps-place : goal.returns-else-stamps-place
returns-else-stamps-place c =
    let f = lt-leb _ _ c.if-stamps-place.false in
    record { stamps_after = left _ f refl; image_after = left _ f refl }
