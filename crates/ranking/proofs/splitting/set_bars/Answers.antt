-- `splitting::set_bars`: the nodes whose flags are set are those of Lawler's split. Assumes nothing.
use native.Mathlib.Omega.{arith}
use mathlib.Core.Path.{◌∙◌, ap}
use Rattle.candidates.specs.Bars.{marked}
use Rattle.candidates.proofs.EntryLaws.{kept_readable}
use Rattle.ranking.proofs.DeviateLaws.{place_in, entry_is, barred_is}
use Rattle.ranking.proofs.splitting.set_bars.Goals as goal

pub invariant_of-entries : goal.invariant_of-entries
invariant_of-entries c = record { readable = kept_readable c.requires.filled.kept }

pub invariant_of-routes : goal.invariant_of-routes
invariant_of-routes c = record { family = c.requires.filled.entered.family }

pub set_bars-requires : goal.set_bars-requires
set_bars-requires c =
    let F = c.requires.filled in
    record { inside = place_in c.args.rank F; flags_long = omega (arith, c.requires.places); in_tail = rw (entry_is c.args.rank F) c.requires.in_tail }

pub returns : goal.returns
returns c =
    let F = c.requires.filled in
    c.set_bars.ensures ∙ ap (λ l. marked c.args.value l c.args.flags.now) (barred_is c.args.rank F c.args.d)
