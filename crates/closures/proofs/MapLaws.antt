-- The bits of the map of closed arcs, and how many of them are set. Assumes nothing.
use Prim.Native.Nat.{ℕ, zero, suc, ◌+◌, ◌-◌, ◌*◌, ◌/◌, ◌%◌, ◌^◌, ◌≤◌, ◌<◌, min}
use native.Mathlib.Omega.{arith}
use native.Mathlib.Numerals.{add-one}
use native.Mathlib.Nat.{pow-suc, mul_comm, one-mul, div-one, div-div-eq-div-mul, zero-div, mod-one}
use mathlib.Core.Path.{◌≡◌, refl, sym, ◌∙◌, ap, ap₂}
use mathlib.Core.Bool.{true, false, not, cond}
use mathlib.Core.Logic.{◌≢◌, ⊎_elim}
use mathlib.Core.List.{List, ◌++◌, append-nil}
use lib.Dec.{eqb}
use lib.ListN.{length, get_or, set, replicate, length-set, length-map, length-append, get_or-replicate, get_or-eq_default}
use lib.Seq.{get_or-set_same, get_or-set_other}
use lib.Count.{ones, ones_in, ones_step}
use lib.Pow.{field, mod-mod-pow, shl_exact, pow_pos}
use borrow.Author.Tests.{eqb-true, eqb-false, eq-eqb, ne_eqb}
use Rattle.terms.specs.Lists.{◌∈◌, keep, numbers}
use Rattle.terms.proofs.ListLaws.{split, le_or_lt, keep_append, keep_length, length_numbers, numbers_mem}
use Rattle.closures.specs.Map.{digit, shut, turned, closed_roads}
use Rattle.closures.proofs.PickLaws.{keep_same, keep_map, keep_none, numbers_append, numbers_from}

-- ---- the digits of a word: the lowest, and those of the half
digit_zero : (w : ℕ) → digit w 0 ≡ w % 2
unfolding digit
digit_zero w = ap (λ x. x % 2) (div-one w)

digit_suc : (w b : ℕ) → digit w (suc b) ≡ digit (w / 2) b
unfolding digit
digit_suc w b = ap (λ x. w / x % 2) (pow-suc 2 b ∙ mul_comm (2 ^ b) 2) ∙ ap (λ x. x % 2) (sym (div-div-eq-div-mul w 2 (2 ^ b)))

digit_small : (w b : ℕ) → digit w b < 2
unfolding digit
digit_small w b = omega arith

-- a digit that is 0 is set by adding its unit, one that is 1 is cleared by taking it away, and the others stay
half_add : (w b : ℕ) → (w + 2 ^ suc b) / 2 ≡ w / 2 + 2 ^ b
half_add w b = rw (pow-suc 2 b) (omega arith)

set_digit : (w b : ℕ) → digit w b ≡ 0 → digit (w + 2 ^ b) b ≡ 1
set_digit w zero z = digit_zero (w + 1) ∙ omega (arith, digit_zero w)
set_digit w (suc b) z = digit_suc (w + 2 ^ suc b) b ∙ ap (λ x. digit x b) (half_add w b) ∙ set_digit (w / 2) b (sym (digit_suc w b) ∙ z)

set_other : (w b j : ℕ) → digit w b ≡ 0 → j ≢ b → digit (w + 2 ^ b) j ≡ digit w j
set_other w zero zero z n = absurd (n refl)
set_other w zero (suc j) z n = digit_suc (w + 1) j ∙ ap (λ x. digit x j) (omega (arith, digit_zero w)) ∙ sym (digit_suc w j)
set_other w (suc b) zero z n = digit_zero (w + 2 ^ suc b) ∙ rw (pow-suc 2 b) (omega arith) ∙ sym (digit_zero w)
set_other w (suc b) (suc j) z n = digit_suc (w + 2 ^ suc b) j ∙ ap (λ x. digit x j) (half_add w b) ∙ set_other (w / 2) b j (sym (digit_suc w b) ∙ z) (λ e. n (ap suc e)) ∙ sym (digit_suc w j)

half_sub : (w b : ℕ) → (w - 2 ^ suc b) / 2 ≡ w / 2 - 2 ^ b
half_sub w b = rw (pow-suc 2 b) (omega arith)

pub unit_le : (w b : ℕ) → digit w b ≡ 1 → 2 ^ b ≤ w
unit_le w zero z = omega (arith, digit_zero w)
unit_le w (suc b) z = rw (pow-suc 2 b) (omega (arith, unit_le (w / 2) b (sym (digit_suc w b) ∙ z)))

clear_digit : (w b : ℕ) → digit w b ≡ 1 → digit (w - 2 ^ b) b ≡ 0
clear_digit w zero z = digit_zero (w - 1) ∙ omega (arith, digit_zero w)
clear_digit w (suc b) z = digit_suc (w - 2 ^ suc b) b ∙ ap (λ x. digit x b) (half_sub w b) ∙ clear_digit (w / 2) b (sym (digit_suc w b) ∙ z)

clear_other : (w b j : ℕ) → digit w b ≡ 1 → j ≢ b → digit (w - 2 ^ b) j ≡ digit w j
clear_other w zero zero z n = absurd (n refl)
clear_other w zero (suc j) z n = digit_suc (w - 1) j ∙ ap (λ x. digit x j) (omega (arith, digit_zero w)) ∙ sym (digit_suc w j)
clear_other w (suc b) zero z n = digit_zero (w - 2 ^ suc b) ∙ omega (arith, unit_le w (suc b) z, pow-suc 2 b) ∙ sym (digit_zero w)
clear_other w (suc b) (suc j) z n = digit_suc (w - 2 ^ suc b) j ∙ ap (λ x. digit x j) (half_sub w b) ∙ clear_other (w / 2) b j (sym (digit_suc w b) ∙ z) (λ e. n (ap suc e)) ∙ sym (digit_suc w j)

-- a word that fits its bits fits them still where a digit is set
pub set_fits : (k w b : ℕ) → w < 2 ^ k → b < k → digit w b ≡ 0 → w + 2 ^ b < 2 ^ k
set_fits zero w b h l z = absurd (omega arith)
set_fits (suc k) w zero h l z = rw (pow-suc 2 k) (omega (arith, rw (pow-suc 2 k) at h, digit_zero w))
set_fits (suc k) w (suc b) h l z =
    let half : w / 2 < 2 ^ k = let h' = rw (pow-suc 2 k) at h in omega arith in
    rw (pow-suc 2 k, pow-suc 2 b) (omega (arith, set_fits k (w / 2) b half (omega arith) (sym (digit_suc w b) ∙ z)))

-- ---- the map
-- beyond its end a map closes no arc
zero_shut : (b : ℕ) → eqb (digit 0 b) 1 ≡ false
unfolding digit
zero_shut b = ap (λ x. eqb (x % 2) 1) (zero-div (2 ^ b))

pub short_open : (words : List ℕ) (i : ℕ) → length words ≤ i / 64 → shut words i ≡ false
unfolding shut
short_open words i h = ap (λ w. eqb (digit w (i % 64)) 1) (get_or-eq_default {A = ℕ} words 0 {n = i / 64} h) ∙ zero_shut (i % 64)

-- in a fresh map no arc is closed
pub fresh_open : (i : ℕ) → shut (replicate 16 0) i ≡ false
unfolding shut
fresh_open i = ap (λ w. eqb (digit w (i % 64)) 1) (word (i / 64)) ∙ zero_shut (i % 64)
  where
    word : (k : ℕ) → get_or {A = ℕ} (replicate 16 0) k 0 ≡ 0
    word k = ⊎_elim (λ h. get_or-eq_default {A = ℕ} (replicate 16 0) 0 {n = k} (omega arith)) (λ h. get_or-replicate 16 k 0 0 h) (le_or_lt 16 k)

-- turning the bit of an arc over changes that arc alone
module _ (words : List ℕ) (i : ℕ) (fits : i / 64 < length words) where
  abbrev word : ℕ
  word = get_or words (i / 64) 0

  abbrev new_word : ℕ
  new_word = cond (shut words i) (word - 2 ^ (i % 64)) (word + 2 ^ (i % 64))

  -- its digit in its word
  pub was_shut : shut words i ≡ true → digit word (i % 64) ≡ 1
  unfolding shut
  was_shut h = eqb-true (digit word (i % 64)) 1 h

  pub was_open : shut words i ≡ false → digit word (i % 64) ≡ 0
  unfolding shut
  was_open h = omega (arith, digit_small word (i % 64), eqb-false (digit word (i % 64)) 1 h)

  new_same : eqb (digit new_word (i % 64)) 1 ≡ not (shut words i)
  new_same =
      ⊎_elim (λ h. rw h (ne_eqb (digit (word - 2 ^ (i % 64)) (i % 64)) 1 (λ e. omega (arith, clear_digit word (i % 64) (was_shut h))))) (λ h. rw h (eq-eqb (digit (word + 2 ^ (i % 64)) (i % 64)) 1 (set_digit word (i % 64) (was_open h))))
      (split (shut words i))

  new_other : (j : ℕ) → j ≢ i % 64 → digit new_word j ≡ digit word j
  new_other j n = ⊎_elim (λ h. rw h (clear_other word (i % 64) j (was_shut h) n)) (λ h. rw h (set_other word (i % 64) j (was_open h) n)) (split (shut words i))

  -- in the map
  pub turn_same : shut (turned words i) i ≡ not (shut words i)
  unfolding turned shut
  turn_same = ap (λ w. eqb (digit w (i % 64)) 1) (get_or-set_same words (i / 64) new_word 0 fits) ∙ new_same

  pub turn_other : (j : ℕ) → j ≢ i → shut (turned words i) j ≡ shut words j
  unfolding turned shut
  turn_other j n = ap (λ x. eqb x 1) (⊎_elim here there (split (eqb (j / 64) (i / 64))))
    where
      here : eqb (j / 64) (i / 64) ≡ true → digit (get_or (set words (i / 64) new_word) (j / 64) 0) (j % 64) ≡ digit (get_or words (j / 64) 0) (j % 64)
      here h =
          let e = eqb-true (j / 64) (i / 64) h in
          ap (λ k. digit (get_or (set words (i / 64) new_word) k 0) (j % 64)) e
          ∙ ap (λ w. digit w (j % 64)) (get_or-set_same words (i / 64) new_word 0 fits)
          ∙ new_other (j % 64) (λ d. n (omega arith))
          ∙ ap (λ k. digit (get_or words k 0) (j % 64)) (sym e)

      there : eqb (j / 64) (i / 64) ≡ false → digit (get_or (set words (i / 64) new_word) (j / 64) 0) (j % 64) ≡ digit (get_or words (j / 64) 0) (j % 64)
      there h = ap (λ w. digit w (j % 64)) (get_or-set_other words (i / 64) (j / 64) new_word 0 (eqb-false (j / 64) (i / 64) h))

  pub turn_length : length (turned words i) ≡ length words
  unfolding turned
  turn_length = length-set words (i / 64) new_word

-- ---- the number of closed arcs, word by word: of the first j bits of word q it is the number of ones
ones_zero : ones 0 ≡ 0
unfolding ones ones_in
ones_zero = refl

ones_below : (w k : ℕ) → length (keep (λ b. eqb (digit w b) 1) (numbers 0 k)) ≡ ones (w % 2 ^ k)
unfolding keep numbers
ones_below w zero = sym (ap ones (mod-one w) ∙ ones_zero)
ones_below w (suc k) =
    let rest = higher (ones_below (w / 2) k) in
    ⊎_elim (λ e. rw e (omega (arith, rest, lowest, ones_step (w % 2 ^ suc k), eqb-true (digit w 0) 1 e, digit_zero w))) (λ e. rw e (omega (arith, rest, lowest, ones_step (w % 2 ^ suc k), eqb-false (digit w 0) 1 e, digit_zero w, digit_small w 0)))
    (split (eqb (digit w 0) 1))
  where
    lowest : w % 2 ^ suc k % 2 ≡ w % 2
    lowest = ap (λ n. w % 2 ^ n % 2) (sym (add-one k)) ∙ mod-mod-pow w k 1

    half : w / 2 % 2 ^ k ≡ w % 2 ^ suc k / 2
    half = sym (ap (λ n. w % 2 ^ n / 2) (sym (add-one k)) ∙ field w k 1)

    next : (x : ℕ) → eqb (digit w (1 + x)) 1 ≡ eqb (digit (w / 2) x) 1
    next x = let e : 1 + x ≡ suc x = omega arith in ap (λ d. eqb d 1) (ap (digit w) e ∙ digit_suc w x)

    higher : length (keep (λ b. eqb (digit (w / 2) b) 1) (numbers 0 k)) ≡ ones (w / 2 % 2 ^ k) → length (keep (λ b. eqb (digit w b) 1) (numbers 1 k)) ≡ ones (w % 2 ^ suc k / 2)
    higher ih =
        ap (λ l. length (keep (λ b. eqb (digit w b) 1) l)) (numbers_from 1 k)
        ∙ ap length (keep_map (λ b. 1 + b) (λ b. eqb (digit w b) 1) (numbers 0 k))
        ∙ length-map (keep (λ b. eqb (digit w (1 + b)) 1) (numbers 0 k)) (λ b. 1 + b)
        ∙ ap length (keep_same (numbers 0 k) (λ x m. next x))
        ∙ ih
        ∙ ap ones half

pub closed_roads_word : (words : List ℕ) (q j : ℕ) → j ≤ 64 → closed_roads words (64 * q + j) ≡ closed_roads words (64 * q) + ones (get_or words q 0 % 2 ^ j)
unfolding closed_roads shut
closed_roads_word words q j h =
    ap (λ l. length (keep (shut words) l)) (numbers_append 0 (64 * q) j)
    ∙ ap length (keep_append (shut words) (numbers 0 (64 * q)) (numbers (0 + 64 * q) j))
    ∙ length-append (keep (shut words) (numbers 0 (64 * q))) (keep (shut words) (numbers (0 + 64 * q) j))
    ∙ ap (λ n. length (keep (shut words) (numbers 0 (64 * q))) + n) in_word
  where
    here : (b : ℕ) → b ∈ numbers 0 j → shut words (0 + 64 * q + b) ≡ eqb (digit (get_or words q 0) b) 1
    here b m =
        let k = numbers_mem 0 j m in
        let e : (0 + 64 * q + b) / 64 ≡ q = omega arith in
        let e' : (0 + 64 * q + b) % 64 ≡ b = omega arith in
        ap₂ (λ x y. eqb (digit (get_or words x 0) y) 1) e e'

    in_word : length (keep (shut words) (numbers (0 + 64 * q) j)) ≡ ones (get_or words q 0 % 2 ^ j)
    in_word =
        ap (λ l. length (keep (shut words) l)) (numbers_from (0 + 64 * q) j)
        ∙ ap length (keep_map (λ b. 0 + 64 * q + b) (shut words) (numbers 0 j))
        ∙ length-map (keep (λ b. shut words (0 + 64 * q + b)) (numbers 0 j)) (λ b. 0 + 64 * q + b)
        ∙ ap length (keep_same (numbers 0 j) here)
        ∙ ones_below (get_or words q 0) j

-- ---- counted word by word, up to bit m
pub closed_roads_le : (words : List ℕ) (m : ℕ) → closed_roads words m ≤ m
unfolding closed_roads
closed_roads_le words m = omega (arith, keep_length (shut words) (numbers 0 m), length_numbers 0 m)

pub closed_roads_none : (words : List ℕ) (m : ℕ) → 0 ≡ closed_roads words (min m (64 * 0))
closed_roads_none words m = let z : min m (64 * 0) ≡ 0 = omega arith in omega (arith, closed_roads_le words (min m (64 * 0)))

-- up to a word that begins at bit m or behind it, all are counted
pub closed_roads_all : (words : List ℕ) (m q : ℕ) → m ≤ 64 * q → closed_roads words (min m (64 * q)) ≡ closed_roads words m
closed_roads_all words m q h = let z : min m (64 * q) ≡ m = omega arith in ap (closed_roads words) z

-- up to the end of word q, whose ones below bit m - 64 * q count
pub closed_roads_more : (words : List ℕ) (m q : ℕ) → closed_roads words (min m (64 * (q + 1))) ≡ closed_roads words (min m (64 * q)) + ones (get_or words q 0 % 2 ^ min (m - 64 * q) 64)
unfolding ones
closed_roads_more words m q = ⊎_elim done more (le_or_lt m (64 * q))
  where
    done : m ≤ 64 * q → closed_roads words (min m (64 * (q + 1))) ≡ closed_roads words (min m (64 * q)) + ones (get_or words q 0 % 2 ^ min (m - 64 * q) 64)
    done h =
        let same : min m (64 * (q + 1)) ≡ min m (64 * q) = omega arith in
        let bits : min (m - 64 * q) 64 ≡ 0 = omega arith in
        let none : ones (get_or words q 0 % 2 ^ min (m - 64 * q) 64) ≡ 0 = ap (λ n. ones (get_or words q 0 % 2 ^ n)) bits ∙ ap ones (mod-one (get_or words q 0)) in
        omega (arith, ap (closed_roads words) same, none)

    more : 64 * q < m → closed_roads words (min m (64 * (q + 1))) ≡ closed_roads words (min m (64 * q)) + ones (get_or words q 0 % 2 ^ min (m - 64 * q) 64)
    more h =
        let here : min m (64 * q) ≡ 64 * q = omega arith in
        let next : min m (64 * (q + 1)) ≡ 64 * q + min (m - 64 * q) 64 = omega arith in
        ap (closed_roads words) next ∙ closed_roads_word words q (min (m - 64 * q) 64) (omega arith) ∙ ap (λ k. closed_roads words k + ones (get_or words q 0 % 2 ^ min (m - 64 * q) 64)) (sym here)

-- beyond the map's end nothing is counted
pub closed_roads_short : (words : List ℕ) (m q : ℕ) → length words ≤ q → closed_roads words (min m (64 * q)) ≡ closed_roads words m
unfolding closed_roads
closed_roads_short words m q short = ⊎_elim (closed_roads_all words m q) beyond (le_or_lt m (64 * q))
  where
    beyond : 64 * q < m → closed_roads words (min m (64 * q)) ≡ closed_roads words m
    beyond h =
        let here : min m (64 * q) ≡ 64 * q = omega arith in
        let all : m ≡ 64 * q + (m - 64 * q) = omega arith in
        ap (closed_roads words) here
        ∙ sym (ap (λ k. length (keep (shut words) (numbers 0 k))) all
        ∙ ap (λ l. length (keep (shut words) l)) (numbers_append 0 (64 * q) (m - 64 * q))
        ∙ ap length (keep_append (shut words) (numbers 0 (64 * q)) (numbers (0 + 64 * q) (m - 64 * q)))
        ∙ ap (λ l. length (keep (shut words) (numbers 0 (64 * q)) ++ l)) (keep_none (shut words) (numbers (0 + 64 * q) (m - 64 * q)) (λ i k. short_open words i (let b = numbers_mem (0 + 64 * q) (m - 64 * q) k in omega arith)))
        ∙ ap length (append-nil (keep (shut words) (numbers 0 (64 * q)))))

-- ---- what the code computes
-- a unit, shifted to its place in 64 bits
pub unit_is : (b : ℕ) → b < 64 → 1 * 2 ^ b % 2 ^ 64 ≡ 2 ^ b
unit_is b h = shl_exact {a = 1} 1 b 64 (omega arith) (omega arith) ∙ one-mul (2 ^ b)

pub unit_some : (b : ℕ) → b < 64 → 0 < 1 * 2 ^ b % 2 ^ 64
unit_some b h = rw (unit_is b h) (pow_pos b)

-- the map with the bit turned over, and its word still in 64 bits
module _ (words : List ℕ) (i : ℕ) where
  abbrev old_word : ℕ
  old_word = get_or words (i / 64) 0

  abbrev unit : ℕ
  unit = 1 * 2 ^ (i % 64) % 2 ^ 64

  here_is : unit ≡ 2 ^ (i % 64)
  here_is = unit_is (i % 64) (omega arith)

  pub turned_off : shut words i ≡ true → set words (i / 64) (old_word - unit) ≡ turned words i
  unfolding turned
  turned_off h = rw (h, here_is)

  pub turned_on : shut words i ≡ false → set words (i / 64) (old_word + unit) ≡ turned words i
  unfolding turned
  turned_on h = rw (h, here_is)

  pub unit_in : i / 64 < length words → shut words i ≡ true → unit ≤ old_word
  unit_in f h = rw here_is (unit_le old_word (i % 64) (was_shut words i f h))

  pub unit_more : i / 64 < length words → shut words i ≡ false → old_word < 2 ^ 64 → old_word + unit < 2 ^ 64
  unit_more f h k = rw here_is (set_fits 64 old_word (i % 64) k (omega arith) (was_open words i f h))
