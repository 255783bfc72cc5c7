-- `laying::Routes::length` adds two numbers whose sum is at most n. Assumes nothing.
use native.Mathlib.Omega.{arith}
use Rattle.candidates.proofs.RootedLaws.{rooted_in, rooted_fits}
use Rattle.candidates.proofs.laying.Routes.length.Goals as goal

pub overflow_add-result : goal.overflow_add-result
overflow_add-result c = omega (arith, c.shared.ensures, c.tail_length.ensures, (rooted_fits c.args.self.now.entries.nodes c.args.self.now.entries.work.now c.args.place (rooted_in c.args.self.now c.args.place c.requires)).short, c.args.self.now.entries.readable.few)
