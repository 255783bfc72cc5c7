-- The workspace: it has room for the slots, and is cleared or left as it was; and a loaded column as the ranking asks for it. Assumes nothing.
use Prim.Native.Nat.{ℕ, ◌+◌, ◌*◌, ◌≤◌}
use native.Mathlib.Omega.{arith}
use mathlib.Core.Path.{◌≡◌, refl, sym, ◌∙◌, ap, subst}
use mathlib.Core.List.{List, ◌++◌, append-nil}
use lib.ListN.{length, replicate, drop_of_length-le, length-replicate}
use Rattle.terms.specs.Network.{Net}
use Rattle.image.specs.Outcome.{Fault, sound, fault, after}
use Rattle.image.proofs.OutcomeLaws.{after_fault}
use Rattle.loading.specs.Accepted.{Ends}
use Rattle.loading.specs.Loaded.{Loaded}
use Rattle.star.specs.Layout.{graph_of, Holds}
use Rattle.ranking.specs.Ranking.{Problem}
use Rattle.ranking.proofs.ResultLaws.{problem_of}
use Rattle.outcomes.specs.Calls.{workspace, cleared}

-- the workspace has room for K slots, and one more
pub slots_fit : (n K work : ℕ) → workspace n K ≤ work → (K + 1) * (n + 16) ≤ work
unfolding workspace
slots_fit n K work h = omega arith

pub cleared_is : (work : List ℕ) → replicate (length work) 0 ≡ cleared sound work
unfolding cleared after
cleared_is work = sym (ap (λ l. replicate (length work) 0 ++ l) (drop_of_length-le work {i = length (replicate (length work) 0)} (omega (arith, length-replicate {A = ℕ} (length work) 0))) ∙ append-nil (replicate (length work) 0))

pub cleared_not : {f : Fault} {number place : ℕ} (work : List ℕ) → f ≡ fault number place → cleared f work ≡ work
unfolding cleared
cleared_not work e = after_fault _ _ e

-- a loaded column is a graph of n nodes
pub column_holds : {net : Net} {u t n : ℕ} {star ws overall : List ℕ} → Loaded net u t star ws overall → n ≡ net.nodes → Holds n star ws
column_holds {star = star} {ws} l n_is = subst (λ n. Holds n star ws) (sym n_is) l.holds

-- the paths from s to t in a loaded column can be ranked
pub rank_problem : {net : Net} {u s t n : ℕ} {star ws overall : List ℕ} → Ends net.nodes s t → Loaded net u t star ws overall → n ≡ net.nodes → Problem n s t (graph_of star ws) overall
rank_problem {net} {s = s} {t = t} {star = star} {ws = ws} {overall = overall} ends l n_is =
    subst (λ n. Problem n s t (graph_of star ws) overall) (sym n_is)
    (problem_of (column_holds l refl) (record { start_from = ends.start_in.from; start_place = omega (arith, ends.start_in.upto); goal_place = omega (arith, ends.goal_in.upto); apart = ends.apart }) (λ x. refl)
    l.labels_long l.least)
