-- What a graph gives to the search of a branch: small labels, exact labels, and exits that are nodes. Assumes nothing.
use Prim.Native.Nat.{ℕ, ◌+◌}
use native.Mathlib.Omega.{arith}
use mathlib.Core.Path.{◌≡◌, refl, ◌∙◌}
use mathlib.Core.Bool.{false, Bool}
use mathlib.Core.Logic.{◌≢◌, ⊎_elim}
use mathlib.Core.List.{List}
use lib.ListN.{length, take, get_or, replicate, get_or-eq_default}
use Rattle.terms.specs.Lists.{elem}
use Rattle.terms.proofs.ListLaws.{le_or_lt}
use Rattle.terms.proofs.RoomLaws.{part_long}
use Rattle.star.specs.Arcs.{graph, heaviest, Arcs}
use Rattle.star.specs.Layout.{graph_of, Holds}
use Rattle.star.proofs.ArcLaws.{graph_within}
use Rattle.star.proofs.Stores.{flags_long}
use Rattle.labels.specs.Labels.{Least}
use Rattle.labels.proofs.LabelLaws.{label_le}
use Rattle.exits.specs.Exits.{Unmarked}
use Rattle.exits.specs.Flags.{Flagged, Fresh}
use Rattle.exits.specs.Small.{Small}
use Rattle.exits.specs.Walks.{Consistent, Choice}
use Rattle.branching.specs.Found.{Ahead, Begun}
use Rattle.branching.proofs.FlagLaws.{flags_none, least_exact, unflagged}
use Rattle.branching.proofs.FirstLaws.{Stepping}
use Rattle.branching.proofs.WalkLaws.{Exact, consistent_more}

-- a weight can be added to a label that is not the mark
least_small : {n : ℕ} {ts hs ws : List ℕ} {bars : List Bool} {ls : List ℕ} {t : ℕ} → Arcs n ts hs ws → length ls ≡ n + 1 → Least (graph ts hs ws) bars t ls → Small (n + 1) ls
least_small {bars} {ls} arcs e l = record { long = e; low = λ v k. ⊎_elim (λ h. omega (arith, get_or-eq_default ls 0 {n = v} h)) (λ h. omega (arith, label_le arcs l heaviest arcs.light v h k)) (le_or_lt (length ls) v) }

module _ {n k : ℕ} {s ws : List ℕ} (holds : Holds n s ws) (nodes : k ≡ n + 1) where
  module _ {bars : List Bool} {ls : List ℕ} {t : ℕ} (long : length ls ≡ k) (l : Least (graph_of s ws) bars t ls) where
    pub graph_small : Small k ls
    unfolding graph_of
    graph_small = rw nodes (least_small holds.arcs (long ∙ nodes) l)

    pub graph_exact : {q : List ℕ} → Flagged bars q → elem t q ≡ false → Exact (graph_of s ws) t ls q
    unfolding graph_of
    graph_exact f u = least_exact holds.arcs (omega (arith, nodes)) f l u

    -- with nothing barred they will do for any beginning
    pub graph_consistent : ((x : ℕ) → get_or bars x false ≡ false) → (q : List ℕ) → Consistent (graph_of s ws) t ls q
    unfolding elem
    graph_consistent none q = consistent_more q (λ x _. refl) (graph_exact (flags_none none) refl).consistent

  -- labels with the nodes of a beginning barred are exact, as these nodes are the flagged ones
  pub begun_exact : {used barred : List Bool} {path ls : List ℕ} {d t : ℕ} → Begun k used barred path d → Ahead k t used → length ls ≡ k → Least (graph_of s ws) used t ls → Exact (graph_of s ws) t ls (take d path)
  begun_exact b a long l = graph_exact long l b.laid.flagged (unflagged b.laid.flagged _ a.unmet)

  -- and so step by step, before the goal is met
  pub stepping_exact : {used : List Bool} {path₀ path ls : List ℕ} {at len x t : ℕ} → Stepping k path₀ at t used path len x → x ≢ t → length ls ≡ k → Least (graph_of s ws) used t ls → Exact (graph_of s ws) t ls (take len path)
  stepping_exact st n long l = graph_exact long l st.longer.laid.flagged (unflagged st.longer.laid.flagged _ (st.goal_ahead n))

  -- local arrays have room for its nodes
  pub room_long : length {A = ℕ} (take k (replicate 201 0)) ≡ k
  room_long = part_long 201 k (omega (arith, holds.arcs.few_nodes, nodes))

  pub flags_room : length {A = Bool} (take k (replicate 201 false)) ≡ k
  flags_room = flags_long 201 k (omega (arith, holds.arcs.few_nodes, nodes))

  -- the chosen exit is a node
  pub choice_fresh : {ls : List ℕ} {used barred : List Bool} {v l y : ℕ} → Choice (graph_of s ws) ls (Unmarked used barred) v l y → Fresh k used y
  unfolding graph_of
  choice_fresh {v} {y} c =
      let w = graph_within holds.arcs v y c.exit.arc in
      record { from = w.0; upto = omega (arith, w.1, nodes); unflagged = c.exit.is_open.unused }
