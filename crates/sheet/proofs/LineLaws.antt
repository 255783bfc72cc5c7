-- The lines of the sheet: how long they are, and nodes one after another. Assumes nothing.
use Prim.Native.Nat.{ℕ, suc, ◌+◌, ◌*◌, ◌≤◌, ◌<◌}
use native.Mathlib.Omega.{arith}
use native.Mathlib.Numerals.{add-one}
use mathlib.Core.Path.{◌≡◌, refl, sym, ◌∙◌, ap}
use mathlib.Core.List.{List, [], ◌∷◌, ◌++◌, append_assoc, append-nil}
use lib.ListN.{length, get_or, take, length-append}
use lib.Seq.{take-suc, get_or-take, take-length, length-take-le}
use Rattle.terms.specs.Paths.{Route}
use Rattle.terms.specs.Robust.{settled, left_open}
use Rattle.sheet.specs.Text.{decimal}
use Rattle.sheet.specs.Sheet.{newline, route_word, regret_word, column_word, ranked_word, floor_word, settled_word, refused_word, at_word, node_text, nodes_text, two_numbers, route_line, regret_line, settled_line, open_line, refused_line, choice_lines, answer_text}
use Rattle.sheet.specs.Answers.{Printable}
use Rattle.sheet.proofs.DecimalLaws.{length_node, length_word}

-- ---- lengths
pub length_two : (a : List ℕ) (x : ℕ) (b : List ℕ) (y : ℕ) → length (two_numbers a x b y) ≡ length a + (length (decimal x) + (length b + (length (decimal y) + 1)))
unfolding two_numbers
length_two a x b y = simp length-append

pub length_node_text : (v : ℕ) → length (node_text v) ≡ 1 + length (decimal v)
unfolding node_text
length_node_text v = length-append (32 ∷ []) (decimal v)

pub length_route : (p : Route) → length (route_line p) ≡ 5 + (length (nodes_text p) + 1)
unfolding route_line
length_route p = length-append route_word (nodes_text p ++ newline) ∙ ap (λ (n : ℕ). 5 + n) (length-append (nodes_text p) newline)

pub length_settled : (c : ℕ) → length (settled_line c) ≡ 7 + (length (decimal c) + 9)
unfolding settled_line
length_settled c = length-append ranked_word (decimal c ++ settled_word) ∙ ap (λ (n : ℕ). 7 + n) (length-append (decimal c) settled_word)

pub length_choice : (p : Route) (f w : ℕ) → length (choice_lines p f w) ≡ length (route_line p) + length (regret_line f w)
unfolding choice_lines
length_choice p f w = length-append (route_line p) (regret_line f w)

pub length_answer_settled : (p : Route) (f w c : ℕ) → length (answer_text (settled p f w c)) ≡ length (choice_lines p f w) + length (settled_line c)
unfolding answer_text
length_answer_settled p f w c = length-append (choice_lines p f w) (settled_line c)

pub length_answer_open : (p : Route) (f w c floor : ℕ) → length (answer_text (left_open p f w c floor)) ≡ length (choice_lines p f w) + length (open_line c floor)
unfolding answer_text
length_answer_open p f w c floor = length-append (choice_lines p f w) (open_line c floor)

-- ---- nodes
nodes_append : (p q : Route) → nodes_text (p ++ q) ≡ nodes_text p ++ nodes_text q
unfolding nodes_text
nodes_append [] q = refl
nodes_append (v ∷ p) q = ap (λ (l : List ℕ). node_text v ++ l) (nodes_append p q) ∙ sym (append_assoc (node_text v) (nodes_text p) (nodes_text q))

nodes_one : (v : ℕ) → nodes_text (v ∷ []) ≡ node_text v
unfolding nodes_text
nodes_one v = append-nil (node_text v)

pub nodes_none : nodes_text [] ≡ []
unfolding nodes_text
nodes_none = refl

-- those of the first i nodes, and of the next
pub nodes_more : (p : Route) (i : ℕ) → i < length p → nodes_text (take i p) ++ node_text (get_or p i 0) ≡ nodes_text (take (i + 1) p)
nodes_more p i h =
    ap (λ (l : List ℕ). nodes_text (take i p) ++ l) (sym (nodes_one (get_or p i 0)))
    ∙ sym (nodes_append (take i p) (get_or p i 0 ∷ []))
    ∙ ap nodes_text (sym (rw add-one (take-suc p i 0 h)))

pub nodes_all : (p : Route) (i : ℕ) → i ≡ length p → nodes_text (take i p) ≡ nodes_text p
nodes_all p i done = ap (λ (j : ℕ). nodes_text (take j p)) done ∙ ap nodes_text (take-length p)

-- ---- a sheet has at most 1,024 bytes
-- nodes of at most three digits
nodes_short : (p : Route) → ((i : ℕ) → i < length p → get_or p i 0 < 1000) → length (nodes_text p) ≤ 4 * length p
unfolding nodes_text
nodes_short [] small = omega arith
nodes_short (v ∷ p) small =
    omega (arith, length-append (node_text v) (nodes_text p), length_node_text v, length_node v (small 0 (omega arith)), nodes_short p (λ i h. small (suc i) (omega arith)))

-- the path at the beginning of a slice
pub printable_part : {path : List ℕ} {n : ℕ} → Printable path n → Printable (take n path) (length (take n path))
printable_part {path} {n} ok =
    let long = length-take-le n path ok.within in
    record { few = omega (arith, long, ok.few); within = omega arith; small = λ i h. let k : i < n = omega arith in rw (get_or-take n path i 0 k) (ok.small i k) }

path_short : {p : Route} → Printable p (length p) → length (nodes_text p) ≤ 800
path_short {p} ok = omega (arith, nodes_short p ok.small, ok.few)

two_short : (a : List ℕ) (x : ℕ) (b : List ℕ) (y : ℕ) → x < 4294967296 → y < 4294967296 → length (two_numbers a x b y) ≤ length a + length b + 21
two_short a x b y h k = omega (arith, length_two a x b y, length_word x h, length_word y k)

module _ {p : Route} (ok : Printable p (length p)) {f w : ℕ} (f_fits : f < 4294967296) (w_fits : w < 4294967296) where
  pub choice_short : length (choice_lines p f w) ≤ 842
  unfolding regret_line
  choice_short = omega (arith, length_choice p f w, length_route p, path_short ok, two_short regret_word f column_word w f_fits w_fits)

  pub settled_short : {c : ℕ} → c < 4294967296 → length (answer_text (settled p f w c)) ≤ 1024
  settled_short {c} h = omega (arith, length_answer_settled p f w c, choice_short, length_settled c, length_word c h)

  pub open_short : {c floor : ℕ} → c < 4294967296 → floor < 4294967296 → length (answer_text (left_open p f w c floor)) ≤ 1024
  unfolding open_line
  open_short {c} {floor} h k = omega (arith, length_answer_open p f w c floor, choice_short, two_short ranked_word c floor_word floor h k)

pub refused_short : (number place : ℕ) → number < 4294967296 → place < 4294967296 → length (refused_line number place) ≤ 1024
unfolding refused_line
refused_short number place h k =
    omega (arith, two_short refused_word number at_word place h k)
