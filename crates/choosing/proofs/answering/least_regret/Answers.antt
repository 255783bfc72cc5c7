-- `answering::least_regret`: the leader's route is laid out, and the finding is the answer. Assumes nothing.
use Prim.Native.Nat.{ℕ}
use native.Mathlib.Omega.{arith}
use mathlib.Core.Path.{◌≡◌, sym, ◌∙◌, ap, subst}
use mathlib.Core.List.{◌++◌}
use lib.ListN.{take, drop}
use Rattle.terms.specs.Paths.{Route}
use Rattle.star.proofs.NetworkLaws.{graph_few}
use Rattle.candidates.specs.Routes.{route_at}
use Rattle.candidates.proofs.LayingLaws.{all_laid}
use Rattle.choosing.specs.Contests.{nodes_in}
use Rattle.choosing.specs.Finding.{told}
use Rattle.choosing.proofs.FindingLaws.{behind_laid, len_some, len_upto, len_route}
use Rattle.choosing.proofs.answering.least_regret.Goals as goal

pub lay_out-requires : goal.lay_out-requires
lay_out-requires c =
    let rooted = c.search-found.ensures.decided.rooted in
    record { inside = omega arith; count_fits = (len_some rooted c.length-length.ensures, omega (arith, c.length-length.ensures), omega (arith, len_upto rooted c.length-length.ensures, c.requires.route_long)) }

pub state-requires : goal.state-requires
state-requires c =
    let D = c.search-found.ensures.decided in
    record { small_figure = D.small_figure; small_floor = D.small_floor; small_count = D.small_count; short = omega (arith, len_upto D.rooted c.length-length.ensures, graph_few c.args.contest.now.query.graph) }

pub returns : goal.returns
returns c =
    let x = c.args.contest.now in
    let D = c.search-found.ensures.decided in
    let path : Route = route_at x.query.start (nodes_in x) c.search-found.new.work c.search-found.result.leader.place in
    let long = len_route D.rooted c.length-length.ensures x.query.start in
    let laid = all_laid c.length-length.result path c.args.route.now c.lay_out.new.path long c.lay_out.ensures in
    let behind = behind_laid c.length-length.result path c.args.route.now c.lay_out.new.path long c.lay_out.ensures in
    record {
      beyond_same = c.search-found.ensures.beyond_same;
      answer_given = c.state.ensures.answers _ ∙ ap (λ (p : Route). told p c.search-found.result) (ap (λ (i : ℕ). take i c.lay_out.new.path) c.state.ensures.length_is ∙ laid) ∙ D.answers;
      path_fits = omega (arith, c.state.ensures.length_is, len_upto D.rooted c.length-length.ensures);
      rest_kept = subst (λ (i : ℕ). c.lay_out.new.path ≡ take i c.lay_out.new.path ++ drop i c.args.route.now) (sym c.state.ensures.length_is) behind;
    }

pub invariant_of-entries : goal.invariant_of-entries
invariant_of-entries c = record { readable = c.search-found.ensures.decided.rooted.readable }

pub invariant_of-ranked : goal.invariant_of-ranked
invariant_of-ranked c = record { family = c.search-found.ensures.decided.rooted.family }

pub overflow_add-entries : goal.overflow_add-entries
overflow_add-entries c = omega (arith, c.search-found.ensures.counted, c.search-found.ensures.decided.small_count)
