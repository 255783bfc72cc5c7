-- Text that grows piece by piece. Assumes nothing.
use Prim.Native.Nat.{ℕ, ◌≤◌}
use native.Mathlib.Omega.{arith}
use mathlib.Core.Path.{◌≡◌, sym, ◌∙◌, ap, subst}
use mathlib.Core.List.{List, [], ◌++◌, append_assoc, append-nil}
use lib.ListN.{length, length-append}
use Rattle.sheet.specs.Text.{Grown}

-- nothing
pub grown_nothing : (t : List ℕ) → Grown t [] t
grown_nothing t = record { held = λ fits. sym (append-nil t) }

-- a piece behind a piece
pub grown_both : {t t' t'' a b : List ℕ} → Grown t a t' → Grown t' b t'' → Grown t (a ++ b) t''
grown_both {t} {t'} {t''} {a} {b} v w = record { held = both }
  where
    both : length (t ++ (a ++ b)) ≤ 1024 → t'' ≡ t ++ (a ++ b)
    both fits =
        let whole : (t ++ a) ++ b ≡ t ++ (a ++ b) = append_assoc t a b in
        let first : t' ≡ t ++ a = v.held (omega (arith, fits, ap length whole, length-append (t ++ a) b)) in
        let joined : t' ++ b ≡ t ++ (a ++ b) = ap (λ (l : List ℕ). l ++ b) first ∙ whole in
        w.held (omega (arith, fits, ap length joined)) ∙ joined

-- the same text under another name
pub grown_as : {t t' a b : List ℕ} → a ≡ b → Grown t a t' → Grown t b t'
grown_as {t} {t'} e w = subst (λ (l : List ℕ). Grown t l t') e w

-- a page that was empty
pub grown_first : {t t' new : List ℕ} → t ≡ [] → Grown t new t' → length new ≤ 1024 → t' ≡ new
grown_first {t} {t'} {new} empty w fits =
    let same : t ++ new ≡ new = ap (λ (l : List ℕ). l ++ new) empty in
    w.held (omega (arith, fits, ap length same)) ∙ same
