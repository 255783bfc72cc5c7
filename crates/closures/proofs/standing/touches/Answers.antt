-- `standing::touches`: some window is the arc. Assumes nothing.
use Rattle.std.proofs.Common.{rules, ℕ, ◌+◌, ◌<◌, ◌≡◌, length, get_or}
use mathlib.Core.Path.{sym, ◌∙◌}
use mathlib.Core.Logic.{⊎_elim}
use native.Mathlib.Numerals.{unary_clauses}
use Rattle.std.proofs.lemmas.Bool.{cases_Bool}
use Rattle.closures.proofs.TestLaws.{touches_at, touches_nowhere}
use Rattle.closures.proofs.standing.touches.Goals as goal

pub returns : goal.returns
returns c = ⊎_elim
    (λ t. let at : (k : ℕ) × (k + 1 < length c.args.route.now) × (get_or c.args.route.now k 0 ≡ c.args.tail) × (get_or c.args.route.now (k + 1) 0 ≡ c.args.head) = search rules in t ∙ sym (touches_at (c.args.tail, c.args.head) c.args.route.now at.0 at.1 at.2 (simp unary_clauses at at.3)))
    (λ f. let none : (k : ℕ) → k + 1 < length c.args.route.now → get_or c.args.route.now k 0 ≡ c.args.tail → get_or c.args.route.now (k + 1) 0 ≡ c.args.head → ⊥ = λ k h e e'. search rules in f ∙ sym (touches_nowhere (c.args.tail, c.args.head) c.args.route.now (λ k h e e'. none k h e (simp unary_clauses e'))))
    (cases_Bool c.any.result)
