-- `laying::Routes::entry_before` compares the costs, and the routes if these are equal. Assumes nothing.
use native.Mathlib.Omega.{arith}
use mathlib.Core.Path.{◌∙◌}
use Rattle.terms.proofs.RoomLaws.{part_long}
use Rattle.candidates.proofs.PlacingLaws.{ahead_apart, ahead_same}
use Rattle.candidates.proofs.laying.Routes.entry_before.Goals as goal

pub returns-then-own-cost : goal.returns-then-own-cost
returns-then-own-cost c = ahead_apart _ c.args.self.now.entries _ _ _ c.requires c.cost-own.ensures c.if-own-cost.true

pub route_before-requires : goal.route_before-requires
route_before-requires c = (c.requires, omega (arith, part_long 200 _ c.args.self.now.entries.readable.few))

pub returns : goal.returns
returns c = c.route_before.ensures ∙ ahead_same _ c.args.self.now.entries _ _ _ c.requires c.cost-own.ensures c.if-own-cost.false
