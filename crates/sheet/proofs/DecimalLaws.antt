-- The decimal digits of a number: the equations by which they are written, how many there are, and that they are those which std prints. Assumes nothing.
use Prim.Native.Nat.{ℕ, zero, suc, ◌+◌, ◌/◌, ◌%◌, ◌^◌, ◌≤◌, ◌<◌}
use native.Mathlib.Omega.{arith}
use native.Mathlib.Nat.{pow-suc, div-lt_iff_lt-mul}
use mathlib.Core.Path.{◌≡◌, sym, ◌∙◌, ap}
use mathlib.Core.Logic.{⊎_elim}
use mathlib.Core.List.{List, [], ◌∷◌, ◌++◌}
use lib.ListN.{length, length-append}
use borrow.Author.Tests.{lt-ltb, le-ltb}
use Rattle.std.specs.Fmt as std
use Rattle.std.proofs.lemmas.Fmt.{decimal_digit, decimal_step}
use Rattle.terms.proofs.ListLaws.{le_or_lt}
use Rattle.sheet.specs.Text.{digit, digits, decimal}

-- ---- one digit, and one digit more
digits_small : (k x : ℕ) → x < 10 → digits (suc k) x ≡ digit x ∷ []
unfolding digits
digits_small k x h = rw (lt-ltb x 10 h)

digits_more : (k x : ℕ) → 10 ≤ x → digits (suc k) x ≡ digits k (x / 10) ++ (digit (x % 10) ∷ [])
unfolding digits
digits_more k x h = rw (le-ltb x 10 h)

-- more places than there are digits change nothing
enough : (k j x : ℕ) → x < k → x < j → digits k x ≡ digits j x
enough zero j x h l = absurd (omega arith)
enough (suc k) zero x h l = absurd (omega arith)
enough (suc k) (suc j) x h l =
    ⊎_elim
    (λ (s : 10 ≤ x). rw (digits_more k x s, digits_more j x s, enough k j (x / 10) (omega arith) (omega arith)))
    (λ (s : x < 10). rw (digits_small k x s, digits_small j x s))
    (le_or_lt 10 x)

pub decimal_small : (x : ℕ) → x < 10 → decimal x ≡ digit x ∷ []
unfolding decimal
decimal_small x h = digits_small x x h

pub decimal_more : (x : ℕ) → 10 ≤ x → decimal x ≡ decimal (x / 10) ++ (digit (x % 10) ∷ [])
unfolding decimal
decimal_more x h = digits_more x x h ∙ ap (λ (l : List ℕ). l ++ (digit (x % 10) ∷ [])) (enough x (suc (x / 10)) (x / 10) (omega arith) (omega arith))

-- ---- how many digits there are
pub length_small : (x : ℕ) → x < 10 → length (decimal x) ≡ 1
length_small x h = ap length (decimal_small x h)

pub length_more : (x : ℕ) → 10 ≤ x → length (decimal x) ≡ length (decimal (x / 10)) + 1
length_more x h = ap length (decimal_more x h) ∙ length-append (decimal (x / 10)) (digit (x % 10) ∷ [])

-- a number below 10 ^ k has at most k digits
pub length_decimal : (k x : ℕ) → x < 10 ^ suc k → length (decimal x) ≤ suc k
length_decimal zero x h = omega (arith, length_small x h)
length_decimal (suc k) x h =
    let h' : x / 10 < 10 ^ suc k = (div-lt_iff_lt-mul {k = 10} {x = x} {y = 10 ^ suc k} (omega arith)).1 (rw (pow-suc 10 (suc k)) at h) in
    ⊎_elim (λ (s : 10 ≤ x). omega (arith, length_more x s, length_decimal k (x / 10) h')) (λ (s : x < 10). omega (arith, length_small x s)) (le_or_lt 10 x)

-- a node of at most three digits, and a number of 32 bits
pub length_node : (x : ℕ) → x < 1000 → length (decimal x) ≤ 3
length_node x h = length_decimal 2 x h

pub length_word : (x : ℕ) → x < 4294967296 → length (decimal x) ≤ 10
length_word x h =
    let h' : x < 10000000000 = omega arith in
    length_decimal 9 x h'

-- ---- they are the digits that std prints
std_digits : (k x : ℕ) → x < k → x < 2 ^ 64 → std.decimal x ≡ decimal x
std_digits zero x h w = absurd (omega arith)
std_digits (suc k) x h w =
    ⊎_elim
    (λ (s : 10 ≤ x). decimal_step x s w ∙ ap (λ (l : List ℕ). l ++ (digit (x % 10) ∷ [])) (std_digits k (x / 10) (omega arith) (omega arith)) ∙ sym (decimal_more x s))
    (λ (s : x < 10). decimal_digit x s ∙ sym (decimal_small x s))
    (le_or_lt 10 x)

pub std_decimal : (x : ℕ) → x < 4294967296 → std.decimal x ≡ decimal x
std_decimal x h = std_digits (suc x) x (omega arith) (omega arith)
