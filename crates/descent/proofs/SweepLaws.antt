-- The loop over the arcs out of a node: flags and route are as before each arc, and what is left to try leads where the whole does. Assumes nothing.
use Prim.Native.Nat.{ℕ, suc, ◌+◌, ◌-◌, ◌≤◌, ◌<◌}
use native.Mathlib.Omega.{arith}
use mathlib.Core.Path.{◌≡◌, refl, sym, ◌∙◌, ap, ap₂, subst}
use mathlib.Core.Bool.{Bool}
use mathlib.Core.List.{List, reverse}
use Rattle.std.specs.Prelude.{Result, Ok, Err}
use lib.ListN.{length, get_or, take, drop}
use Rattle.terms.specs.Lists.{keep}
use Rattle.descent.specs.Rule.{each}
use Rattle.terms.specs.Network.{Net}
use Rattle.terms.specs.Paths.{Route}
use Rattle.terms.specs.Regret.{figure}
use Rattle.descent.specs.Rule.{State, complete}
use Rattle.descent.specs.Limit.{going, cut, descend_within}
use Rattle.descent.specs.Limit as rule
use Rattle.descent.specs.Tables.{heads_at}
use Rattle.descent.specs.Depth.{trail, Begun, Kept, Matches, Ends, goes, stopped, Given, at_arc, sweep}
use Rattle.descent.specs.declared.depth.Held.{Held}
use Rattle.descent.specs.declared.depth.Cut.{Cut}
use Rattle.descent.proofs.StepLaws.{route_is, sweep_step, sweep_cut, descend_goal, descend_sweep, rest_step, rest_none}

-- ---- what was kept
pub kept_none : {d : ℕ} {route : List ℕ} {used : List Bool} → Kept d route used route used
kept_none = record { flags = refl; nodes = refl }

pub kept_both : {d : ℕ} {route : List ℕ} {used : List Bool} {route' : List ℕ} {used' : List Bool} {route'' : List ℕ} {used'' : List Bool} → Kept d route used route' used' → Kept d route' used' route'' used'' → Kept d route used route'' used''
kept_both a b = record { flags = b.flags ∙ a.flags; nodes = b.nodes ∙ a.nodes }

pub begun_kept : {places d : ℕ} {route : List ℕ} {used : List Bool} {path sums route' : List ℕ} {used' : List Bool} {path' : List ℕ} → Begun places route used path sums d → Kept d route used route' used' → length route' ≡ length route → length path' ≡ length path
    → Begun places route' used' path' sums d
begun_kept {places} {d} {route} {used} {route'} {used'} b k r p =
    let t : trail route' d ≡ trail route d = ap reverse k.nodes in
    record {
      some = b.some;
      room = rw t b.room;
      route_long = omega (arith, b.route_long);
      path_long = omega (arith, b.path_long);
      used_long = ap length k.flags ∙ b.used_long;
      flagged = rw (t, k.flags) b.flagged;
      sums_low = b.sums_low;
    }

pub given_kept : {net : Net} {s t : ℕ} {seen : List ℕ} {z z' : State} {hs outs costs labels bests : List ℕ} {places goal v d : ℕ} {route path sums : List ℕ} {used : List Bool} {route' : List ℕ} {used' : List Bool} {path' : List ℕ} {h h' : Held}
    → Given net s t seen z hs outs costs labels bests places goal v d route path sums h → Kept d route used route' used' → Matches path' h' z'
    → Given net s t seen z' hs outs costs labels bests places goal v d route' path' sums h'
given_kept g k m = record { tables = g.tables; goal_is = g.goal_is; nodes_are = ap reverse k.nodes ∙ g.nodes_are; sums_are = g.sums_are; matches = m }

-- ---- how a run ended
pub ends_going : {path : List ℕ} {a : rule.Run} {h : Held} → Ends path a (Ok h) → (z : State) × (a ≡ going z) × Matches path h z
ends_going (goes {z} m) = (z, refl, m)

pub ends_cut : {path : List ℕ} {a : rule.Run} {e : Cut} → Ends path a (Err e) → a ≡ cut
ends_cut stopped = refl

-- ---- the arcs from i on lead from z where all arcs from i₀ on lead from z₀
pub record Leads (limit f : ℕ) (net : Net) (s t : ℕ) (seen : List ℕ) (v : ℕ) (hs : List ℕ) (to i₀ i : ℕ) (z₀ : State) (path : List ℕ) (h : Held) : Type 0 where
  pub now : State
  pub matches : Matches path h now
  pub same : sweep limit f net s t seen v (take (to - i) (drop i hs)) (going now) ≡ sweep limit f net s t seen v (take (to - i₀) (drop i₀ hs)) (going z₀)

module _ {limit f : ℕ} {net : Net} {s t : ℕ} {seen : List ℕ} {v : ℕ} {hs : List ℕ} {to i₀ i : ℕ} {z₀ : State} {path : List ℕ} {h : Held} (l : Leads limit f net s t seen v hs to i₀ i z₀ path h) (more : i < to) (inside : to ≤ length hs) where
  on : sweep limit f net s t seen v (take (to - (i + 1)) (drop (i + 1) hs)) (at_arc limit f net s t seen v (get_or hs i 0) l.now) ≡ sweep limit f net s t seen v (take (to - i₀) (drop i₀ hs)) (going z₀)
  on = sym (sweep_step limit f net s t seen v (get_or hs i 0) (take (to - (i + 1)) (drop (i + 1) hs)) l.now) ∙ ap (λ (r : List ℕ). sweep limit f net s t seen v r (going l.now)) (sym (rest_step hs i to more inside)) ∙ l.same

  pub leads_on : {path' : List ℕ} {h' : Held} → Ends path' (at_arc limit f net s t seen v (get_or hs i 0) l.now) (Ok h') → Leads limit f net s t seen v hs to i₀ (i + 1) z₀ path' h'
  leads_on e = let g = ends_going e in
      record { now = g.0; matches = g.2; same = ap (sweep limit f net s t seen v (take (to - (i + 1)) (drop (i + 1) hs))) (sym g.1) ∙ on }

  pub leads_cut : {path' : List ℕ} {e : Cut} → Ends path' (at_arc limit f net s t seen v (get_or hs i 0) l.now) (Err e) → sweep limit f net s t seen v (take (to - i₀) (drop i₀ hs)) (going z₀) ≡ cut
  leads_cut e = sym on ∙ ap (sweep limit f net s t seen v (take (to - (i + 1)) (drop (i + 1) hs))) (ends_cut e) ∙ sweep_cut limit f net s t seen v (take (to - (i + 1)) (drop (i + 1) hs))

pub leads_end : {limit f : ℕ} {net : Net} {s t : ℕ} {seen : List ℕ} {v : ℕ} {hs : List ℕ} {to i₀ i : ℕ} {z₀ : State} {path : List ℕ} {h : Held} (l : Leads limit f net s t seen v hs to i₀ i z₀ path h) → to ≤ i
    → sweep limit f net s t seen v (take (to - i₀) (drop i₀ hs)) (going z₀) ≡ going l.now
unfolding sweep keep each
leads_end {limit} {f} {net} {s} {t} {seen} {v} {hs} {to} {i} l e = sym l.same ∙ ap (λ (r : List ℕ). sweep limit f net s t seen v r (going l.now)) (rest_none hs i to e) ∙ refl

pub ends_of : {path : List ℕ} {a : rule.Run} {q r : Result Held Cut} → q ≡ r → Ends path a q → Ends path a r
ends_of {path} {a} e x = subst (Ends path a) e x

-- ---- the rule at a node, from what is given
module _ {net : Net} {s t : ℕ} {seen : List ℕ} {z : State} {hs outs costs labels bests : List ℕ} {places goal v d : ℕ} {route path sums : List ℕ} {h : Held} (limit : ℕ)
    (given : Given net s t seen z hs outs costs labels bests places goal v d route path sums h) (room : d < places) where
  fuel : places - d ≡ suc (places - (d + 1))
  fuel = omega arith

  pub descend_arrived : v ≡ goal → descend_within limit (places - d) net s t seen v z ≡ going (complete (figure net s t) (take d route) z)
  descend_arrived e =
      ap (λ (f : ℕ). descend_within limit f net s t seen v z) fuel
      ∙ descend_goal limit (places - (d + 1)) net s t seen v z (e ∙ given.goal_is)
      ∙ ap (λ (p : Route). going (complete (figure net s t) p z)) (sym (route_is route d given.nodes_are))

  pub descend_onward : (from to : ℕ) → (v ≡ goal → ⊥) → v < places → from ≡ get_or outs v 0 → to ≡ get_or outs (v + 1) 0
      → descend_within limit (places - d) net s t seen v z ≡ sweep limit (places - (d + 1)) net s t seen v (take (to - from) (drop from hs)) (going z)
  unfolding heads_at
  descend_onward from to n l e f =
      ap (λ (f : ℕ). descend_within limit f net s t seen v z) fuel
      ∙ descend_sweep limit (places - (d + 1)) net s t seen v z (λ e. n (e ∙ sym given.goal_is))
      ∙ ap (λ (r : List ℕ). sweep limit (places - (d + 1)) net s t seen v r (going z)) (given.tables.heads_are v l ∙ ap₂ (λ (a b : ℕ). take (b - a) (drop a hs)) (sym e) (sym f))

-- before the first arc
pub leads_start : {limit f : ℕ} {net : Net} {s t : ℕ} {seen : List ℕ} {v : ℕ} {hs : List ℕ} {to i : ℕ} {z : State} {path : List ℕ} {h : Held} → Matches path h z → Leads limit f net s t seen v hs to i i z path h
leads_start {z} m = record { now = z; matches = m; same = refl }
