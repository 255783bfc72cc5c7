-- Numbers as decimal digits, and text that is written at the end of a page. Assumes nothing.
use Rattle.std.specs.Prelude.{ℕ, zero, suc, ◌+◌, ◌/◌, ◌%◌, ◌≤◌, ◌≡◌, cond, List, [], ◌∷◌, ◌++◌, ltb, length}

-- ---- numbers in decimal digits
-- the byte of a digit, "0" to "9"
abbrev pub digit : ℕ → ℕ
digit d = 48 + d

-- the digits of x, at most k of them, with no zero in front: those of its tenth, and then its last
unfoldable pub digits : ℕ → ℕ → List ℕ
digits zero x = []
digits (suc k) x =
    let front = digits k (x / 10) in
    cond (ltb x 10) (digit x ∷ []) (front ++ (digit (x % 10) ∷ []))

-- all digits of x: it has no more than x + 1
unfoldable pub decimal : ℕ → List ℕ
decimal x = digits (suc x) x

-- ---- a page before and after the bytes `new` are written at its end: if they fit in its 1,024 bytes, they stand there behind what it had
pub record Grown (page new page' : List ℕ) : Type 0 where
  pub held : length (page ++ new) ≤ 1024 → page' ≡ page ++ new
