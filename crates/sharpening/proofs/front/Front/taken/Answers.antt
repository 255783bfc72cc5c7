-- `Front::taken`: the nodes that were taken have places. Assumes nothing.
use mathlib.Core.Path.{subst}
use Prim.Native.Nat.{◌<◌}
use lib.ListN.{get_or, take}
use Rattle.sharpening.specs.Sharp.{Seen}
use Rattle.sharpening.proofs.SharpLaws.{taken_below}
use Rattle.sharpening.proofs.front.Front.taken.Goals as goal

pub returns-clause-below : goal.returns-clause-below
returns-clause-below c = λ j. subst (λ (s : Seen). get_or (take c.self.inside.taken c.self.inside.nodes.now) j 0 < s.places) c.self.view_is (taken_below c.self.invariant j)
