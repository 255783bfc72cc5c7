-- `laying::Routes::lay_out`: the parent's place is lower, and what is laid out for it is the first part. Assumes nothing.
use Prim.Native.Nat.{ℕ, ◌+◌, min}
use native.Mathlib.Omega.{arith}
use mathlib.Core.Path.{◌≡◌, sym, ◌∙◌, ap}
use mathlib.Core.List.{List, ◌++◌}
use lib.ListN.{take, drop}
use Rattle.candidates.specs.Slots.{entry_at}
use Rattle.candidates.specs.Routes.{route_at, Rooted}
use Rattle.candidates.proofs.RootedLaws.{rooted_in, rooted_fits, parent_lower, leaves_early, taken, taken_start, taken_parent, taken_length, route_is}
use Rattle.candidates.proofs.LayingLaws.{both_laid, start_laid, parent_laid}
use Rattle.candidates.proofs.laying.Routes.+lay_out.Goals as goal
use Rattle.candidates.proofs.laying.Routes.+lay_out.Goals.{in-None, in-Some}

pub lay_out-requires : goal.lay_out-requires
lay_out-requires t c =
    let root : Rooted c.args.self.now.entries.nodes c.args.self.now.entries.work.now c.args.place = rooted_in c.args.self.now c.args.place c.requires.inside in
    let r : ℕ = c.in-Some.parent in
    let z : (entry_at c.args.self.now.entries.nodes c.args.self.now.entries.work.now c.args.place).parent ≡ c.in-Some.parent + 1 = c.in-Some.ensures in (
      omega (arith, c.decreases, parent_lower c.args.self.now.entries.nodes c.args.self.now.entries.work.now c.args.place root r z),
      (
        omega (arith, c.requires.inside, parent_lower c.args.self.now.entries.nodes c.args.self.now.entries.work.now c.args.place root r z),
        (omega (arith, c.requires.count_fits, c.shared-shared.ensures, (rooted_fits c.args.self.now.entries.nodes c.args.self.now.entries.work.now c.args.place root).some), omega (arith, c.shared-shared.ensures, leaves_early c.args.self.now.entries.nodes c.args.self.now.entries.work.now c.args.place root r z), omega (arith, c.requires.count_fits, c.min.ensures)),
      ),
    )

pub lay_tail-requires-clause-nodes_within : goal.lay_tail-requires-clause-nodes_within
lay_tail-requires-clause-nodes_within t c = (rooted_fits c.args.self.now.entries.nodes c.args.self.now.entries.work.now c.args.place (rooted_in c.args.self.now c.args.place c.requires.inside)).nodes

pub returns : goal.returns
returns t c =
    let root : Rooted c.args.self.now.entries.nodes c.args.self.now.entries.work.now c.args.place = rooted_in c.args.self.now c.args.place c.requires.inside in
    let same = c.shared-shared.ensures in
    let first : List ℕ = taken c.args.self.now.entries.nodes c.args.self.now.entries.work.now c.args.place root c.args.self.now.start in
    let k : ℕ = min c.shared-shared.result c.args.count in
    let began : c.match-parent.path ≡ take k first ++ drop k c.args.path.now = elim c.match-parent.branch [
      | in-None w ↦
          let z = w.in-None.ensures in
          w.path-is ∙ start_laid c.args.self.now.start c.shared-shared.result c.args.count first c.args.path.now (taken_start c.args.self.now.entries.nodes c.args.self.now.entries.work.now c.args.place root c.args.self.now.start z) (same ∙ (rooted_fits c.args.self.now.entries.nodes c.args.self.now.entries.work.now c.args.place root).from_start z) c.requires.count_fits.0 (omega arith)
      | in-Some w ↦
          let z : (entry_at c.args.self.now.entries.nodes c.args.self.now.entries.work.now c.args.place).parent ≡ w.in-Some.parent + 1 = w.in-Some.ensures in
          w.path-is ∙ parent_laid c.shared-shared.result c.args.count w.min.result first (route_at c.args.self.now.start c.args.self.now.entries.nodes c.args.self.now.entries.work.now w.in-Some.parent) c.args.path.now _ (taken_parent c.args.self.now.entries.nodes c.args.self.now.entries.work.now c.args.place root c.args.self.now.start w.in-Some.parent z ∙ ap (λ (x : ℕ). take x (route_at c.args.self.now.start c.args.self.now.entries.nodes c.args.self.now.entries.work.now w.in-Some.parent)) (sym same)) w.min.ensures w.lay_out.ensures
    ] in
    c.lay_tail.ensures
    ∙ both_laid c.shared-shared.result c.args.count first (entry_at c.args.self.now.entries.nodes c.args.self.now.entries.work.now c.args.place).tail c.args.path.now c.match-parent.path (taken_length c.args.self.now.entries.nodes c.args.self.now.entries.work.now c.args.place root c.args.self.now.start ∙ sym same) began
    ∙ ap (λ (r : List ℕ). take c.args.count r ++ drop c.args.count c.args.path.now) (sym (route_is c.args.self.now.entries.nodes c.args.self.now.entries.work.now c.args.place root c.args.self.now.start))
