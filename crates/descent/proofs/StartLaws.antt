-- The start of the search, with one node on the route, and its outcome. Assumes nothing.
use Prim.Native.Nat.{ℕ, ◌+◌, ◌-◌, ◌≤◌, ◌<◌}
use native.Mathlib.Omega.{arith}
use mathlib.Core.Path.{◌≡◌, refl}
use mathlib.Core.Bool.{Bool, true, false, not}
use mathlib.Core.List.{List, [], ◌∷◌}
use Rattle.std.specs.Prelude.{Result}
use lib.ListN.{length, get_or, set, take, replicate, length-set}
use Rattle.terms.specs.Lists.{elem, numbers}
use Rattle.terms.specs.Network.{Net}
use Rattle.terms.specs.Paths.{cost_from, cost}
use Rattle.descent.specs.Rule.{fresh_state, laid}
use Rattle.descent.specs.Limit.{descend_within, search_within}
use Rattle.descent.specs.Limit as rule
use Rattle.terms.proofs.ListLaws.{keep_length, length_numbers}
use Rattle.terms.proofs.PathLaws.{unseen, unseen_lt}
use Rattle.descent.proofs.LimitLaws.{going_few, cut_many}
use Rattle.terms.proofs.RoomLaws.{part_zero}
use Rattle.descent.specs.Rows.{Low}
use Rattle.descent.specs.Tables.{Tables}
use Rattle.descent.specs.Depth.{trail, Begun, none_held, Ends, goes, stopped, Given, Fresh, Outcome, whole, too_many}
use Rattle.descent.specs.declared.depth.Held.{Held}
use Rattle.descent.specs.declared.depth.Cut.{Cut}
use Rattle.star.proofs.Stores.{flags_long, flags_clear}
use Rattle.descent.proofs.StepLaws.{trail_more, flag_more}

-- nothing is held yet
abbrev pub none_yet : Held
none_yet = record { length = 0; figure = 18446744073709551615; tried = 0 }

module _ {places start : ℕ} {route : List ℕ} {used : List Bool} {path : List ℕ} (f : Fresh places start route used path) where
  trail_one : trail (set route 0 start) 1 ≡ start ∷ []
  trail_one = trail_more route 0 start (omega (arith, f.start_from, f.start_in, f.route_long))

  room_one : 1 + length (unseen (places - 1) (start ∷ [])) < places
  unfolding unseen elem
  room_one = omega (arith, unseen_lt (places - 1) [] start f.start_from (omega (arith, f.start_in)) refl, keep_length (λ (x : ℕ). not (elem x [])) (numbers 1 (places - 1)), length_numbers 1 (places - 1), f.start_in)

  pub begun_one : {sums : List ℕ} → Low 1 sums → Begun places (set route 0 start) (set used start true) path sums 1
  begun_one low = record {
    some = omega arith;
    room = rw trail_one room_one;
    route_long = simp length-set f.route_long;
    path_long = f.path_long;
    used_long = simp length-set f.used_long;
    flagged = rw trail_one (flag_more {flags = used} {q = []} start (record { inside = λ x m. elim m [ ]; outside = λ x _. f.none_used x }) (omega (arith, f.start_in, f.used_long)));
    sums_low = low;
  }

  pub given_one : {net : Net} {t : ℕ} {hs outs costs labels bests sums : List ℕ} → Tables net start t hs outs costs labels bests places → ((u : ℕ) → get_or sums u 0 ≡ 0)
      → Given net start t [] fresh_state hs outs costs labels bests places t start 1 (set route 0 start) path sums none_yet
  unfolding laid cost cost_from
  given_one tables zeros = record { tables = tables; goal_is = refl; nodes_are = trail_one; sums_are = λ u _. zeros u; matches = record { tried_is = refl; found_is = none_held refl refl } }

-- the outcome, from how the limited run ended
outcome_of : {limit : ℕ} {net : Net} {s t : ℕ} {path : List ℕ} {a : rule.Run} {r : Result Held Cut} → search_within limit net s t ≡ a → Ends path a r → Outcome limit net s t path r
outcome_of {limit} {net} {s} {t} e (goes m) = let g = going_few limit net s t e in whole (rw g.0 at m) g.1
outcome_of {limit} {net} {s} {t} e stopped = too_many (cut_many limit net s t e)

pub outcome_is : {limit : ℕ} {net : Net} {s t places : ℕ} {path : List ℕ} {r : Result Held Cut} → places ≡ net.nodes + 1 → Ends path (descend_within limit (places - 1) net s t [] s fresh_state) r → Outcome limit net s t path r
unfolding search_within
outcome_is {limit} {net} {s} {t} {places} {path} {r} n x =
    let k : places - 1 ≡ net.nodes = omega arith in
    outcome_of refl (rw k at x)

-- no arc yet: eight sums of 0
pub zeros_low : Low 1 (take 8 (replicate 8 0))
zeros_low = record { long = refl; low = λ u. omega (arith, part_zero 8 8 u) }

-- a route and flags as the arrays are made
pub fresh_room : {places start : ℕ} {path : List ℕ} → places ≤ 201 → 1 ≤ start → start < places → places ≤ length path + 1 → Fresh places start (replicate 200 0) (take places (replicate 201 false)) path
fresh_room {places} few from inside long =
    record { start_from = from; start_in = inside; route_long = omega (arith, few); path_long = long; used_long = flags_long 201 places few; none_used = flags_clear 201 places }
