-- A star that holds the arcs of an admitted network: with the costs of a column in which each arc is open it is that column's network and
-- graph. Assumes nothing.
use Prim.Native.Nat.{ℕ, ◌+◌, ◌≤◌, ◌<◌}
use native.Mathlib.Omega.{arith}
use native.Mathlib.Nat.{eq-or-lt_of_le}
use mathlib.Core.Path.{◌≡◌, sym, ◌∙◌, ap, subst}
use mathlib.Core.Logic.{⊎_elim}
use mathlib.Core.List.{List, ◌++◌, map}
use lib.ListN.{length, get_or, replicate, length-map, length-replicate}
use lib.Seq.{take_all}
use Rattle.terms.specs.Lists.{◌∈◌}
use Rattle.terms.specs.Network.{Net, cost_column, column, Admitted}
use Rattle.terms.proofs.ListLaws.{get_or_mem}
use Rattle.terms.proofs.RoomLaws.{part_zero}
use Rattle.terms.proofs.NetworkLaws.{costs_long, column_unmarked}
use Rattle.star.specs.Arcs.{Arcs}
use Rattle.star.specs.Chains.{Chains}
use Rattle.star.specs.Star.{Star, Cut, RisingTails}
use Rattle.star.specs.Layout.{tails_of, heads_of, outs_of, graph_of, Holds}
use Rattle.star.proofs.StarLaws.{star_of}
use Rattle.star.proofs.LayoutLaws as layout
use Rattle.loading.specs.Loaded.{Shape}
use Rattle.loading.proofs.DecodeLaws.{Decoded, arcs_decoded, graph_weigh}

zero_at : (n i : ℕ) → get_or {A = ℕ} (replicate n 0) i 0 ≡ 0
zero_at n i = subst (λ (l : List ℕ). get_or l i 0 ≡ 0) (take_all n (replicate n 0) (omega (arith, length-replicate {A = ℕ} n 0))) (part_zero n n i)

-- ---- the arcs in arrays, put together
module _ {net : Net} {ts hs : List ℕ} (d : Decoded net ts hs) where
  -- their weights do not matter here: let them be 0
  pub bare_arcs : Arcs net.nodes ts hs (replicate (length net.arcs) 0)
  bare_arcs = d.arcs (replicate (length net.arcs) 0) (length-replicate (length net.arcs) 0) (λ i h. omega (arith, zero_at (length net.arcs) i))

  pub rising_tails : RisingTails ts
  rising_tails = record {
    few = omega (arith, bare_arcs.few);
    rising = λ i j h k. ⊎_elim (λ (e : i ≡ j). rw e (omega arith)) (λ l. d.tails_rise i j l k) (eq-or-lt_of_le h);
  }

  pub shape_of : (ns os is : List ℕ) {s : List ℕ} → length os ≡ net.nodes + 2 → ((v : ℕ) → v < length os → Cut ts v (get_or os v 0)) → Chains hs is ns → length is ≡ net.nodes + 1 → s ≡ ts ++ hs ++ ns ++ os ++ is → Shape net s
  shape_of ns os is outs_long cuts chains ins_long e =
      let m = length net.arcs in
      let t : length ts ≡ m = ap length d.tails_are ∙ length-map net.arcs (λ (a : ℕ × ℕ). a.0) in
      let h : length hs ≡ m = bare_arcs.heads_long ∙ t in
      let x : length ns ≡ m = chains.next_long ∙ h in
      let o : length os ≡ net.nodes + 1 + 1 = omega (arith, outs_long) in
      let tails = layout.tails_are ts hs ns os is t h x o ins_long in
      let heads = layout.heads_are ts hs ns os is t h x o ins_long in
      let nexts = layout.nexts_are ts hs ns os is t h x o ins_long in
      let outs = layout.outs_are ts hs ns os is t h x o ins_long in
      let ins = layout.ins_are ts hs ns os is t h x o ins_long in
      subst (λ s. Shape net s) (sym e) (record {
        long = layout.star_long ts hs ns os is t h x o ins_long;
        tails_are = tails ∙ d.tails_are;
        heads_are = heads ∙ d.heads_are;
        star = rw (tails, heads, outs) (star_of bare_arcs d.heads_rise outs_long cuts);
        chains = rw (heads, ins, nexts) chains;
        ins_long = rw ins ins_long;
      })

-- ---- the arcs out of each node, for n nodes and m arcs
pub shape_star : {net : Net} {s : List ℕ} (n m : ℕ) → n ≡ net.nodes → m ≡ length net.arcs → Shape net s → Star net.nodes (tails_of m s) (heads_of m s) (outs_of (n + 1) m s)
shape_star n m e f shape = rw (e, f) shape.star

-- ---- with the costs of a column in which each arc is open
module _ {e : ℕ} {net : Net} {u : ℕ} {s : List ℕ} (ok : Admitted e net) (from : 1 ≤ u) (upto : u ≤ length net.columns) (light : (w : ℕ) → w ∈ cost_column net u → w ≤ 1000000) (shape : Shape net s) where
  long : length (cost_column net u) ≡ length net.arcs
  long = costs_long ok u from upto

  held : Arcs net.nodes (map (λ a. a.0) net.arcs) (map (λ a. a.1) net.arcs) (cost_column net u)
  held = (arcs_decoded ok).arcs (cost_column net u) long (λ i h. light _ (get_or_mem (cost_column net u) 0 i h))

  pub shape_holds : Holds net.nodes s (cost_column net u)
  shape_holds = record {
    long = rw long shape.long;
    arcs = rw (long, shape.tails_are, shape.heads_are) held;
    star = rw long shape.star;
    chains = rw long shape.chains;
    ins_long = rw long shape.ins_long;
  }

  pub shape_graph : graph_of s (cost_column net u) ≡ column net u
  unfolding graph_of
  shape_graph = rw (long, shape.tails_are, shape.heads_are) (graph_weigh net.arcs (cost_column net u) ∙ sym (column_unmarked net u (λ w m z. omega (arith, light w m))))
