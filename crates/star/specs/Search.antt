-- docs/REFERENCE.md, section 4.9: an arc is looked for among records, of a tail and a head each, that rise by tail, then head. Assumes nothing.
use Rattle.std.specs.Prelude.{ℕ, zero, suc, ◌+◌, ◌-◌, ◌/◌, ◌≤◌, ◌<◌, ◌≡◌, Bool, true, ◌&&◌, cond, List, eqb, get_or, Option, Some, None}
use Rattle.terms.specs.Network.{below}

-- ---- the rule
-- what a search gives: the arc's index, or that there is none; and at how many records it looked
abbrev pub Sought : Type 0
Sought = Option ℕ × ℕ

-- the record at index i
abbrev pub record_at : List ℕ → List ℕ → ℕ → ℕ × ℕ
record_at ts hs i = (get_or ts i 0, get_or hs i 0)

-- whether a record is the arc
unfoldable pub is_arc : ℕ × ℕ → ℕ × ℕ → Bool
is_arc r x = eqb r.0 x.0 && eqb r.1 x.1

-- the middle of `left` records from index `first` on, of two the first: half of the others stand before it, rounded down
abbrev pub middle : ℕ → ℕ → ℕ
middle first left = first + (left - 1) / 2

-- `left` records from index `first` on are left, and `looks` were looked at; `most` is no less than what is left
unfoldable pub halve : List ℕ → List ℕ → ℕ × ℕ → ℕ → ℕ → ℕ → ℕ → Sought
halve ts hs x zero looks first left = (None, looks)
halve ts hs x (suc most) looks first left =
    let before = halve ts hs x most (looks + 1) first ((left - 1) / 2) in
    let behind = halve ts hs x most (looks + 1) (middle first left + 1) (left / 2) in
    cond (eqb left 0) (None, looks) (cond (is_arc (record_at ts hs (middle first left)) x) (Some (middle first left), looks + 1) (cond (below (record_at ts hs (middle first left)) x) behind before))

-- the arc x among the records from a to below e: the middle one is looked at; if it is not the arc, the search goes on behind it if it is below the arc, else before it, until nothing is left
unfoldable pub seek : List ℕ → List ℕ → ℕ × ℕ → ℕ → ℕ → Sought
seek ts hs x a e = halve ts hs x (e - a) 0 a (e - a)

-- ---- what it comes to
-- index i is that of the arc x, from a to below e
pub record Among (ts hs : List ℕ) (x : ℕ × ℕ) (a e i : ℕ) : Type 0 where
  pub from : a ≤ i
  pub upto : i < e
  pub tail_is : get_or ts i 0 ≡ x.0
  pub head_is : get_or hs i 0 ≡ x.1

-- the records from a to below e rise by tail, then head
pub record Rising (ts hs : List ℕ) (a e : ℕ) : Type 0 where
  pub rises : (i j : ℕ) → a ≤ i → i < j → j < e → below (record_at ts hs i) (record_at ts hs j) ≡ true

-- what was found: an index exactly of a record that is the arc, none exactly when no record is, and never more than 10 looks at 1,000 records
pub record Finds (ts hs : List ℕ) (x : ℕ × ℕ) (a e : ℕ) (s : Sought) : Type 0 where
  pub index_right : (i : ℕ) → s.0 ≡ Some i → Among ts hs x a e i
  pub index_found : Rising ts hs a e → (i : ℕ) → Among ts hs x a e i → s.0 ≡ Some i
  pub none_right : Rising ts hs a e → s.0 ≡ None → (i : ℕ) → Among ts hs x a e i → ⊥
  pub none_found : ((i : ℕ) → Among ts hs x a e i → ⊥) → s.0 ≡ None
  pub few : e - a ≤ 1000 → s.1 ≤ 10
