-- The next path to be ranked: it is laid out and flagged, and the parts of its branch wait. Assumes nothing.
use mathlib.Core.Bool.{Bool}
use Prim.Native.Nat.{ℕ, ◌+◌, ◌≤◌, ◌<◌}
use native.Mathlib.Omega.{arith}
use mathlib.Core.Path.{◌≡◌, sym, ◌∙◌, ap, subst}
use mathlib.Core.List.{List, [], ◌++◌}
use lib.ListN.{length, take, drop, get_or}
use lib.Seq.{take_at, take_all, get_or-take}
use Rattle.terms.specs.Lists.{◌∈◌}
use Rattle.terms.specs.Paths.{Route, Loopless, Path, cost}
use Rattle.terms.proofs.ListLaws.{get_or_mem}
use Rattle.star.specs.Layout.{graph_of, Holds}
use Rattle.candidates.specs.Slots.{Entry, none, entry_at, entries}
use Rattle.candidates.specs.Routes.{routes, size, route_at}
use Rattle.candidates.proofs.EntryLaws.{length_entries, entries_at}
use Rattle.candidates.proofs.FamilyLaws.{route_length}
use Rattle.candidates.proofs.RootedLaws.{route_at_entries}
use Rattle.branching.specs.Found.{Idle}
use Rattle.branching.specs.Laid.{Laid}
use Rattle.ranking.specs.Ranking.{Problem, Filled, Along, Markable, Due}
use Rattle.ranking.specs.State.{Searching, waiting_to}
use Rattle.ranking.proofs.EnterLaws.{problem_within, path_nodes, path_small}
use Rattle.branching.proofs.FlagLaws.{flags_none}
use Rattle.ranking.proofs.StateLaws.{entry_cost, entered_rank, next_is_path, search_rank, waiting_all}

module _ {n s t : ℕ} {star ws overall : List ℕ} (H : Holds n star ws) (P : Problem n s t (graph_of star ws) overall) {M r limit : ℕ} {w : List ℕ} {count : ℕ}
    (F : Filled n M (graph_of star ws) s r w count) (Q : Due n (graph_of star ws) s t M limit (entries n w count) r) where
  abbrev E : List Entry
  E = entries n w count

  abbrev e : Entry
  e = get_or E r none

  abbrev p : Route
  p = get_or (routes s E) r []

  pub due_place : r < count
  due_place = omega (arith, Q.inside, length_entries n w count)

  pub due_filled : Filled n M (graph_of star ws) s (r + 1) w count
  due_filled = record { some = F.some; few = F.few; kept = F.kept; entered = entered_rank F.entered Q.inside }

  pub due_entry : entry_at n w r ≡ e
  due_entry = sym (entries_at n w count r due_place)

  -- its cost, and how many nodes it takes over and has
  pub due_cost : {x : ℕ} → x ≡ (entry_at n w r).cost → x ≡ e.cost
  due_cost h = h ∙ ap (λ (x : Entry). x.cost) due_entry

  pub due_shared : {x : ℕ} → x ≡ (entry_at n w r).shared → x ≡ e.shared
  due_shared h = h ∙ ap (λ (x : Entry). x.shared) due_entry

  pub due_size : {x y : ℕ} → x ≡ (entry_at n w r).shared → y ≡ length (entry_at n w r).tail → x + y ≡ size e
  due_size h k = let z = k ∙ ap (λ (x : Entry). length x.tail) due_entry in omega (arith, due_shared h)

  pub due_short : size e ≤ n
  due_short = (F.entered.family.fits r Q.inside).short

  pub due_some : 1 ≤ e.shared
  due_some = (F.entered.family.fits r Q.inside).some

  long : length p ≡ size e
  long = route_length s F.entered.family r Q.inside

  pub due_path : Path (graph_of star ws) s t p
  due_path = next_is_path (problem_within H P) P.start_from P.start_to F.entered Q.search Q.inside

  pub due_waiting : Searching n (graph_of star ws) s t M limit E (r + 1) (waiting_to s E r (size e))
  due_waiting =
      subst (λ l. Searching n (graph_of star ws) s t M limit E (r + 1) l) (sym (waiting_all F.entered r Q.inside))
      (search_rank (problem_within H P) P.start_from P.start_to F.entered Q.search Q.inside Q.cheap)

  -- ---- it is laid out
  module _ (len : ℕ) (path path' : List ℕ) (size_is : len ≡ size e) (out : path' ≡ take len (route_at s n w r) ++ drop len path) where
    route_out : take len (route_at s n w r) ≡ p
    route_out = ap (take len) (route_at_entries s n w r count due_place) ∙ take_all len p (omega (arith, long))

    laid_out : take len path' ≡ p
    laid_out = ap (λ l. take len l) (out ∙ ap (λ l. l ++ drop len path) route_out) ∙ take_at p (drop len path) len (omega (arith, long))

    pub due_markable : {used bars : List Bool} → Idle (n + 1) used bars → length used ≡ n + 1 → n ≤ length path' → Markable (n + 1) used path' len
    due_markable I ul pl = record {
      upto = omega (arith, due_short);
      room = omega arith;
      flags_long = ul;
      none_used = I.none_used;
      nodes = λ i h. let m = path_nodes H P due_path (node i h) in (m.0, omega (arith, m.1));
      loopless = subst Loopless (sym laid_out) due_path.loopless;
    }
      where
        node : (i : ℕ) → i < len → get_or path' i 0 ∈ p
        node i h = subst (λ (x : ℕ). x ∈ p) (ap (λ (l : Route). get_or l i 0) (sym laid_out) ∙ get_or-take len path' i 0 h) (get_or_mem p 0 i (omega (arith, long)))

    pub due_along : {used used' bars : List Bool} (c : ℕ) → Idle (n + 1) used bars → Laid (n + 1) used' path' len → c ≡ e.cost → Along n (graph_of star ws) s t E r used' bars path' len c
    due_along c I l z = record {
      laid = l;
      none_barred = flags_none I.none_barred;
      bars_long = I.barred_long;
      inside = Q.inside;
      is_path = due_path;
      same = laid_out ∙ sym (take_all len p (omega (arith, long)));
      lower = omega arith;
      upper = omega arith;
      costs = z ∙ entry_cost F.entered r ∙ ap (cost (graph_of star ws)) (sym laid_out);
      small = omega (arith, entry_cost F.entered r, path_small H P due_path);
    }
