-- The arcs that are open in every column, as they stand among all arcs: a path over these is a path open in every column, and the other
-- way. Assumes nothing.
use Prim.Native.Nat.{ℕ, ◌≤◌}
use native.Mathlib.Omega.{arith}
use mathlib.Core.Path.{◌≡◌, refl, sym, ◌∙◌, ap, ap₂}
use mathlib.Core.Bool.{Bool, true, false, not}
use mathlib.Core.Logic.{◌⊎◌, inl, inr}
use mathlib.Core.List.Memᴰ
use mathlib.Core.List.{List, [], ◌∷◌, map}
use lib.Dec.{eqb}
use lib.ListN.{length}
use borrow.Author.Tests.{eqb-true}
use Rattle.terms.specs.Lists.{◌∈◌, elem, keep, numbers}
use Rattle.terms.specs.Network.{Arc, Graph, Net, Admitted, heads, linked, column}
use Rattle.terms.specs.Paths.{Route, Path, OpenPath, ByArcs, single, along, exits}
use Rattle.terms.proofs.ListLaws.{split, mem_keep, keep_mem, mem_numbers, numbers_mem, get_or_mem}
use Rattle.terms.proofs.PathLaws.{PathFrom, arrive, onward, to_path, of_path, Within, column_within}
use Rattle.terms.proofs.GraphLaws.{linked_arc, arc_linked}
use Rattle.terms.proofs.NetworkLaws.{column_arc}
use Rattle.descent.specs.Rule.{every, drawn}
use Rattle.descent.proofs.EachLaws.{every_all, all_every}

-- ---- the graph of these arcs; what they cost stands in the columns
-- is the arc from a to b open in every column
unfoldable pub everywhere : Net → ℕ → ℕ → Bool
everywhere net a b = every (λ u. linked (column net u) a b) (numbers 1 (length net.columns))

unfoldable pub joint : Net → Graph
joint net = keep (λ x. everywhere net x.tail x.head) (drawn net)

-- an arc of a column is one of the network's
column_pair : (net : Net) (u : ℕ) {v h : ℕ} → linked (column net u) v h ≡ true → (v, h) ∈ net.arcs
column_pair net u {v} {h} e =
    let x = linked_arc (column net u) v h e in
    let at = (column_arc net u x.1).1 in
    Memᴰ.cast (ap₂ (λ (a b : ℕ). (a, b)) (sym x.2 ∙ at.tail_is) (sym x.3 ∙ at.head_is)) (get_or_mem net.arcs (0, 0) _ at.below_arcs)

module _ (net : Net) where
  -- ---- they are the arcs open in each column
  module _ (v h : ℕ) where
    pub everywhere_column : (u : ℕ) → 1 ≤ u → u ≤ length net.columns → everywhere net v h ≡ true → linked (column net u) v h ≡ true
    unfolding everywhere
    everywhere_column u lo hi e = every_all (λ (u : ℕ). linked (column net u) v h) e (mem_numbers 1 (length net.columns) u lo (omega arith))

    column_everywhere : ((u : ℕ) → 1 ≤ u → u ≤ length net.columns → linked (column net u) v h ≡ true) → everywhere net v h ≡ true
    unfolding everywhere
    column_everywhere f = all_every (λ (u : ℕ). linked (column net u) v h) (numbers 1 (length net.columns)) (λ u m. let b = numbers_mem 1 (length net.columns) m in f u b.0 (omega arith))

    pub joint_everywhere : linked (joint net) v h ≡ true → everywhere net v h ≡ true
    unfolding joint
    joint_everywhere e =
        let a = linked_arc (joint net) v h e in
        sym (ap₂ (everywhere net) a.2 a.3) ∙ (keep_mem (λ (x : Arc). everywhere net x.tail x.head) (drawn net) a.1).1

    pub joint_column : (u : ℕ) → 1 ≤ u → u ≤ length net.columns → linked (joint net) v h ≡ true → linked (column net u) v h ≡ true
    joint_column u lo hi e = everywhere_column u lo hi (joint_everywhere e)

    pub column_joint : 1 ≤ length net.columns → ((u : ℕ) → 1 ≤ u → u ≤ length net.columns → linked (column net u) v h ≡ true) → linked (joint net) v h ≡ true
    unfolding joint drawn
    column_joint some f =
        arc_linked {x = record { tail = v; head = h; weight = 0 }}
        (mem_keep (λ (x : Arc). everywhere net x.tail x.head) (Memᴰ.map (λ a. record { tail = a.0; head = a.1; weight = 0 }) (column_pair net 1 (f 1 (omega arith) some))) (column_everywhere f))

  pub joint_within : {e : ℕ} → Admitted e net → Within net.nodes (joint net)
  joint_within ok v h e = column_within ok 1 v h (joint_column v h 1 (omega arith) ok.columns_from e)

  -- ---- their unused heads are those of all arcs, but for what is closed somewhere
  module _ (open_at pass-tail : Arc → Bool) (open-head unused : ℕ → Bool) (same : (x : Arc) → pass-tail x ≡ true → open-head x.head ≡ open_at x) where
    sift : (l : Graph) → keep unused (map (λ x. x.head) (keep pass-tail (keep open_at l))) ≡ keep open-head (keep unused (map (λ x. x.head) (keep pass-tail l)))
    unfolding keep
    sift [] = refl
    sift (x ∷ l) = now (split (open_at x)) (split (pass-tail x)) (split (unused x.head)) (sift l)
      where
        now : (open_at x ≡ true) ⊎ (open_at x ≡ false) → (pass-tail x ≡ true) ⊎ (pass-tail x ≡ false) → (unused x.head ≡ true) ⊎ (unused x.head ≡ false)
            → keep unused (map (λ x. x.head) (keep pass-tail (keep open_at l))) ≡ keep open-head (keep unused (map (λ x. x.head) (keep pass-tail l)))
            → keep unused (map (λ x. x.head) (keep pass-tail (keep open_at (x ∷ l)))) ≡ keep open-head (keep unused (map (λ x. x.head) (keep pass-tail (x ∷ l))))
        now (inl o) (inl p) (inl u) ih = rw (o, p, u, same x p, o) (ap (λ k. x.head ∷ k) ih)
        now (inl o) (inl p) (inr u) ih = rw (o, p, u) ih
        now (inl o) (inr p) u ih = rw (o, p) ih
        now (inr o) (inl p) (inl u) ih = rw (o, p, u, same x p, o) ih
        now (inr o) (inl p) (inr u) ih = rw (o, p, u) ih
        now (inr o) (inr p) u ih = rw (o, p) ih

  pub exits_joint : (seen : List ℕ) (v : ℕ) → exits (joint net) seen v ≡ keep (everywhere net v) (exits (drawn net) seen v)
  unfolding exits heads joint
  exits_joint seen v =
      sift (λ x. everywhere net x.tail x.head) (λ x. eqb x.tail v) (everywhere net v) (λ h. not (elem h seen)) (λ x e. ap (λ w. everywhere net w x.head) (sym (eqb-true x.tail v e))) (drawn net)

-- ---- paths over other arcs
-- a path goes along wherever its arcs do
pub carry : {g k : Graph} {t : ℕ} {seen : List ℕ} {v : ℕ} {p : Route} → ((v h : ℕ) → linked g v h ≡ true → linked k v h ≡ true) → PathFrom g t seen v p → PathFrom k t seen v p
carry f (arrive e) = arrive e
carry f (onward {v} {h} n a u r) = onward n (f v h a) u (carry f r)

-- over these arcs, and in each column
first_arc : {g : Graph} {v h : ℕ} {p : List ℕ} → ByArcs g (v ∷ h ∷ p) → linked g v h ≡ true
first_arc (along a b) = a

later_arcs : {g : Graph} {v h : ℕ} {p : List ℕ} → ByArcs g (v ∷ h ∷ p) → ByArcs g (h ∷ p)
later_arcs (along a b) = b

module _ (net : Net) where
  pub joint_path : {s t : ℕ} {p : Route} → Path (joint net) s t p → OpenPath net s t p
  joint_path r = record { in_column = λ u lo hi. to_path (carry (λ v h. joint_column net v h u lo hi) (of_path r)) }

  arcs_open : (p : Route) → 1 ≤ length net.columns → ((u : ℕ) → 1 ≤ u → u ≤ length net.columns → ByArcs (column net u) p) → ByArcs (joint net) p
  arcs_open [] some f = elim (f 1 (omega arith) some) [ ]
  arcs_open (v ∷ []) some f = single
  arcs_open (v ∷ h ∷ p) some f = along (column_joint net v h some (λ u lo hi. first_arc (f u lo hi))) (arcs_open (h ∷ p) some (λ u lo hi. later_arcs (f u lo hi)))

  pub path_joint : {s t : ℕ} {p : Route} → 1 ≤ length net.columns → OpenPath net s t p → Path (joint net) s t p
  path_joint {p} some q = let r = q.in_column 1 (omega arith) some in
      record { from_start = r.from_start; to_goal = r.to_goal; by_arcs = arcs_open p some (λ u lo hi. (q.in_column u lo hi).by_arcs); loopless = r.loopless }
