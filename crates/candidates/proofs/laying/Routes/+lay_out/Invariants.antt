-- The measure is the place: the parent's is lower. Assumes nothing.
use Rattle.candidates.proofs.laying.Routes.+lay_out.Given as goal

abbrev pub decreases-lay_out : goal.decreases-lay_out
decreases-lay_out l = l.place
