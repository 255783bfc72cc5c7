-- `splitting::deviate`: the nodes that are barred while a part is looked into are those of Lawler's split, and they are cleared again. Assumes nothing.
use Prim.Native.Nat.{ℕ, ◌+◌, ◌-◌, ◌≤◌}
use native.Mathlib.Omega.{arith}
use mathlib.Core.Path.{◌≡◌, ◌∙◌, ap₂}
use mathlib.Core.Bool.{false}
use Rattle.candidates.specs.Bars.{marked}
use Rattle.ranking.proofs.DeviateLaws.{part_deviation, part_cleared, changed_filled, same_entry, barred_kept}
use Rattle.ranking.proofs.splitting.deviate.Goals as goal

-- the entry before stands there
before_is : (parent : ℕ) → 1 ≤ parent → parent ≡ parent - 1 + 1
before_is parent h = omega arith

pub set_bars-requires : goal.set_bars-requires
set_bars-requires c = let z = before_is c.args.detour.parent c.requires.ranked in record { filled = rw z at c.requires.filled; places = c.requires.along.bars_long; in_tail = (c.requires.along.lower, c.requires.inside) }

pub consider-now-requires : goal.consider-now-requires
consider-now-requires c =
    let z = before_is c.args.detour.parent c.requires.ranked in
    record { filled = c.requires.filled; deviation = rw z (part_deviation (c.args.detour.parent - 1) (rw z at c.requires.filled) c.requires.along c.requires.inside c.set_bars.ensures) }

pub set_bars-requires-2 : goal.set_bars-requires-2
set_bars-requires-2 c =
    let z = before_is c.args.detour.parent c.requires.ranked in
    let F = rw z at c.requires.filled in
    let C = rw z at c.consider-now.ensures.changed in
    record {
      filled = changed_filled (c.args.detour.parent - 1) F C;
      places = omega (arith, c.set_bars.auto.flags, c.requires.along.bars_long);
      in_tail = rw (same_entry (c.args.detour.parent - 1) F C) (c.requires.along.lower, c.requires.inside);
    }

pub returns : goal.returns
returns c =
    let z = before_is c.args.detour.parent c.requires.ranked in
    let F = rw z at c.requires.filled in
    let C = rw z at c.consider-now.ensures.changed in
    record {
      restored = c.consider-now.ensures.restored;
      barred_same = part_cleared (c.args.detour.parent - 1) F c.requires.along c.requires.inside (c.set_bars-2.ensures ∙ ap₂ (λ l f. marked false l f) (barred_kept (c.args.detour.parent - 1) F C c.args.detour.d) c.set_bars.ensures);
      changed = c.consider-now.ensures.changed;
      settled = c.consider-now.ensures.settled;
    }
