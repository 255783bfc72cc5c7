-- Numbers and their bytes: reading and writing one, and lists of them, at any width. Assumes nothing.
-- ---- one number
-- a field of one byte more: its low byte, and the field that starts one byte later
use Prim.Native.Nat.{ℕ, zero, suc, ◌+◌, ◌*◌, ◌-◌, ◌/◌, ◌%◌, ◌^◌, ◌≤◌, ◌<◌}
use native.Mathlib.Omega.{arith}
use native.Mathlib.Numerals.{add-one}
use native.Mathlib.Nat.{mul-zero, mul-suc, zero-add, add-zero, add_assoc, add_comm, pow-zero, pow-suc, mod-add-div, mod-eq_of_lt, div-eq_of_lt, div-lt_iff_lt-mul, add-mul-mod_self_left, add-mul-div_left}
use mathlib.Core.Path.{◌≡◌, refl, sym, ◌∙◌, ap, ap₂}
use mathlib.Core.List.Memᴰ
use mathlib.Core.List.{List, [], ◌∷◌, ◌++◌, map, append_assoc, append-nil}
use mathlib.Core.Logic.{⊎_elim}
use lib.ListN.{length, get_or, take, drop, length-append, length-drop, take-append-drop}
use lib.Seq.{drop-cons, take-suc, take_at, take-add, take-length, drop_at, drop-drop, length-take-le}
use borrow.Rule.Slice.PartMut.{put_mid, Post-is}
use Rattle.std.proofs.lemmas.List.{map-id}
use Rattle.terms.specs.Lists.{◌∈◌}
use Rattle.terms.proofs.ListLaws.{take_mem, drop_mem}
use Rattle.image.specs.Bytes.{number, bytes, field, decode, encode}

field_suc : (w : ℕ) (b : List ℕ) (i : ℕ) → i < length b → field (suc w) b i ≡ get_or b i 0 + 256 * field w b (i + 1)
unfolding field number
field_suc w b i h = rw (add-one, drop-cons b i 0 h)

field_none : (b : List ℕ) (i : ℕ) → field 0 b i ≡ 0
unfolding field number
field_none b i = refl

pub field_2 : (b : List ℕ) (i : ℕ) → i + 2 ≤ length b → field 2 b i ≡ get_or b i 0 + 256 * get_or b (i + 1) 0
field_2 b i h = omega (arith, field_suc 1 b i (omega arith), field_suc 0 b (i + 1) (omega arith), field_none b (i + 1 + 1))

pub field_4 : (b : List ℕ) (i : ℕ) → i + 4 ≤ length b → field 4 b i ≡ get_or b i 0 + 256 * get_or b (i + 1) 0 + 65536 * get_or b (i + 2) 0 + 16777216 * get_or b (i + 3) 0
field_4 b i h =
    let two : i + 1 + 1 ≡ i + 2 = omega arith in
    let three : i + 2 + 1 ≡ i + 3 = omega arith in
    omega (arith, field_suc 3 b i (omega arith), field_suc 2 b (i + 1) (omega arith), ap (field 2 b) two, field_suc 1 b (i + 2) (omega arith), ap (field 1 b) three, field_suc 0 b (i + 3) (omega arith), field_none b (i + 3 + 1))

-- bytes are written over a part
pub put_bytes : (w i : ℕ) (l : List ℕ) {new bs : List ℕ} → new ≡ bs → put_mid i (i + w - i) l new ≡ take i l ++ (bs ++ drop (i + w) l)
put_bytes w i l {bs = bs} e = ap₂ (λ (x y : List ℕ). take i l ++ (x ++ y)) e (Post-is i (i + w) l (omega arith))

-- two bytes and four, each by a division of its own
pub bytes_2 : (x : ℕ) → x % 256 ∷ x / 256 % 256 ∷ [] ≡ bytes 2 x
unfolding bytes
bytes_2 x = refl

pub bytes_4 : (x : ℕ) → x % 256 ∷ x / 256 % 256 ∷ x / 65536 % 256 ∷ x / 16777216 % 256 ∷ [] ≡ bytes 4 x
unfolding bytes
bytes_4 x =
    let third : x / 65536 ≡ x / 256 / 256 = omega arith in
    let fourth : x / 16777216 ≡ x / 256 / 256 / 256 = omega arith in
    ap₂ (λ (y z : ℕ). x % 256 ∷ x / 256 % 256 ∷ y % 256 ∷ z % 256 ∷ []) third fourth

-- ---- lists of numbers
pub length_decode : (w c : ℕ) (b : List ℕ) → length (decode w c b) ≡ c
unfolding decode
length_decode w zero b = refl
length_decode w (suc c) b = ap suc (length_decode w c (drop w b))

pub decode_at : (w c : ℕ) (b : List ℕ) (i : ℕ) → i < c → get_or (decode w c b) i 0 ≡ field w b (w * i)
unfolding decode field
decode_at w zero b i h = absurd (omega arith)
decode_at w (suc c) b zero h = rw mul-zero
decode_at w (suc c) b (suc i) h = decode_at w c (drop w b) i (omega arith) ∙ rw (drop-drop, mul-suc, add_comm)

length_bytes : (w x : ℕ) → length (bytes w x) ≡ w
unfolding bytes
length_bytes zero x = refl
length_bytes (suc w) x = ap suc (length_bytes w (x / 256))

pub length_encode : (w : ℕ) (l : List ℕ) → length (encode w l) ≡ w * length l
unfolding encode
length_encode w [] = sym (mul-zero w)
length_encode w (x ∷ l) = simp (length-append, length_bytes, length_encode w l, mul-suc) (omega arith)

encode_append : (w : ℕ) (l r : List ℕ) → encode w (l ++ r) ≡ encode w l ++ encode w r
unfolding encode
encode_append w [] r = refl
encode_append w (x ∷ l) r = rw (encode_append w l r) (sym (append_assoc (bytes w x) (encode w l) (encode w r)))

encode_take : (w : ℕ) (l : List ℕ) (i : ℕ) → i < length l → encode w (take (i + 1) l) ≡ encode w (take i l) ++ bytes w (get_or l i 0)
unfolding encode
encode_take w l i h = rw (add-one, take-suc l i 0 h, encode_append) (ap (λ (r : List ℕ). encode w (take i l) ++ r) (append-nil (bytes w (get_or l i 0))))

-- w bytes are written behind p, which stands at the beginning of t
pub write_next : (new : List ℕ) (w : ℕ) (p t t₀ : List ℕ) (i : ℕ) → length p ≡ i → t ≡ p ++ drop i t₀ → take i t ++ (new ++ drop (i + w) t) ≡ (p ++ new) ++ drop (i + w) t₀
write_next new w p t t₀ i long e =
    rw (e, take_at p (drop i t₀) i long, ← drop-drop w i (p ++ drop i t₀), drop_at p (drop i t₀) i long, drop-drop w i t₀, append_assoc)

-- so the numbers of a list are written one after another from s on
pub write_more : (w : ℕ) (l t t₀ : List ℕ) (s i : ℕ) → i < length l → s ≤ length t₀ → t ≡ (take s t₀ ++ encode w (take i l)) ++ drop (s + w * i) t₀
    → take (s + w * i) t ++ (bytes w (get_or l i 0) ++ drop (s + w * i + w) t) ≡ (take s t₀ ++ encode w (take (i + 1) l)) ++ drop (s + w * (i + 1)) t₀
write_more w l t t₀ s i h k e =
    write_next (bytes w (get_or l i 0)) w (take s t₀ ++ encode w (take i l)) t t₀ (s + w * i) long e
    ∙ rw (encode_take w l i h, add-one i, mul-suc w i, add_assoc s (w * i) w, append_assoc (take s t₀) (encode w (take i l)) (bytes w (get_or l i 0)))
  where
    long : length (take s t₀ ++ encode w (take i l)) ≡ s + w * i
    long = rw (length-append, length-take-le s t₀ k, length_encode w (take i l), length-take-le i l (omega arith))

-- before the first is written
pub write_none : (w : ℕ) (l t : List ℕ) (s : ℕ) → t ≡ (take s t ++ encode w (take 0 l)) ++ drop (s + w * 0) t
unfolding encode
write_none w l t s = rw (append-nil (take s t), mul-zero w, add-zero s, take-append-drop s t)

-- and after the last
pub write_all : (w : ℕ) (l t t₀ : List ℕ) (s i : ℕ) → i ≡ length l → t ≡ (take s t₀ ++ encode w (take i l)) ++ drop (s + w * i) t₀
    → t ≡ take s t₀ ++ (encode w l ++ drop (s + w * length l) t₀)
write_all w l t t₀ s i done e =
    e ∙ rw (done, take-length l) (append_assoc (take s t₀) (encode w l) (drop (s + w * length l) t₀))

-- ---- lists of numbers of a type that has each as its own value
pub as_read : (w c : ℕ) (b old : List ℕ) {new : List ℕ} → map (λ (x : ℕ). x) new ≡ decode w c b ++ drop c (map (λ (x : ℕ). x) old) → new ≡ decode w c b ++ drop c old
as_read w c b old {new} e = sym (map-id new) ∙ e ∙ ap (λ (l : List ℕ). decode w c b ++ drop c l) (map-id old)

pub as_written : (w : ℕ) (l p q : List ℕ) {new : List ℕ} → new ≡ p ++ (encode w (map (λ (x : ℕ). x) l) ++ q) → new ≡ p ++ (encode w l ++ q)
as_written w l p q e = e ∙ ap (λ (m : List ℕ). p ++ (encode w m ++ q)) (map-id l)

-- ---- there and back
-- numbers of w bytes are those below 256 ^ w, and each is the number of its bytes
pub number_bytes : (w x : ℕ) → x < 256 ^ w → number (bytes w x) ≡ x
unfolding number bytes
number_bytes zero x h = let e = (rw pow-zero at h) in omega arith
number_bytes (suc w) x h =
    let h' : x / 256 < 256 ^ w = (div-lt_iff_lt-mul {k = 256} {x = x} {y = 256 ^ w} (omega arith)).1 (rw pow-suc at h) in
    omega (arith, number_bytes w (x / 256) h', mod-add-div x 256)

-- a list of bytes
abbrev pub AllBytes : List ℕ → Type 0
AllBytes l = (x : ℕ) → x ∈ l → x < 256

-- of a list whose places all hold bytes
pub all_bytes : (l : List ℕ) → ((i : ℕ) → get_or l i 0 < 256) → AllBytes l
all_bytes [] at x m = elim m [ ]
all_bytes (y ∷ l) at x m = ⊎_elim (λ (e : x ≡ y). rw e (at 0)) (all_bytes l (λ i. at (suc i)) x) (Memᴰ.cases_cons m)

pub bytes_number : (l : List ℕ) → AllBytes l → bytes (length l) (number l) ≡ l
unfolding number bytes
bytes_number [] all = refl
bytes_number (b ∷ l) all =
    let low : b < 256 = all b (Memᴰ.head refl) in
    rw (add-mul-mod_self_left b 256 (number l), mod-eq_of_lt low, add-mul-div_left b (number l) {y = 256} (omega arith), div-eq_of_lt low, zero-add) (ap (λ (t : List ℕ). b ∷ t) (bytes_number l (λ x m. all x (Memᴰ.tail m))))

pub drop_bytes : (i : ℕ) (l : List ℕ) → AllBytes l → AllBytes (drop i l)
drop_bytes i l all x m = all x (drop_mem i l m)

-- the bytes of the number that w bytes stand for
first_bytes : (w : ℕ) (b : List ℕ) → AllBytes b → w ≤ length b → bytes w (number (take w b)) ≡ take w b
first_bytes w b all h = rw (length-take-le w b h) at (bytes_number (take w b) (λ x m. all x (take_mem w b m)))

pub field_bytes : (w : ℕ) (b : List ℕ) (i : ℕ) → AllBytes b → i + w ≤ length b → bytes w (field w b i) ≡ take w (drop i b)
unfolding field
field_bytes w b i all h = first_bytes w (drop i b) (drop_bytes i b all) (omega (arith, length-drop i b))

-- lists of numbers that fit in w bytes
pub decode_encode : (w : ℕ) (l r : List ℕ) → ((x : ℕ) → x ∈ l → x < 256 ^ w) → decode w (length l) (encode w l ++ r) ≡ l
unfolding decode encode
decode_encode w [] r fit = refl
decode_encode w (x ∷ l) r fit =
    rw (append_assoc (bytes w x) (encode w l) r, take_at (bytes w x) (encode w l ++ r) w (length_bytes w x), drop_at (bytes w x) (encode w l ++ r) w (length_bytes w x), number_bytes w x (fit x (Memᴰ.head refl)))
    (ap (λ (t : List ℕ). x ∷ t) (decode_encode w l r (λ y m. fit y (Memᴰ.tail m))))

pub encode_decode : (w c : ℕ) (b : List ℕ) → AllBytes b → w * c ≤ length b → encode w (decode w c b) ≡ take (w * c) b
unfolding decode encode
encode_decode w zero b all h = rw mul-zero
encode_decode w (suc c) b all h =
    let e : w * suc c ≡ w + w * c = mul-suc w c ∙ add_comm (w * c) w in
    let k : w + w * c ≤ length b = rw e at h in
    rw (e, take-add w (w * c) b, encode_decode w c (drop w b) (drop_bytes w b all) (omega (arith, length-drop w b)))
    (ap (λ (t : List ℕ). t ++ take (w * c) (drop w b)) (first_bytes w b all (omega arith)))
