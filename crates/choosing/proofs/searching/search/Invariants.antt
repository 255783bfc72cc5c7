-- `searching::search`. The loop: j paths are counted, `Counting` holds, and the floor is what `Outlook` says. Assumes nothing.
use Prim.Native.Nat.{◌+◌, ◌-◌, ◌*◌, ◌≤◌}
use mathlib.Core.Path.{◌≡◌}
use lib.ListN.{drop}
use Rattle.labels.specs.Labels.{far}
use Rattle.choosing.specs.Contests.{nodes_in, low_in}
use Rattle.choosing.specs.Counting.{CountingIn, OutlookIn}
use Rattle.choosing.proofs.searching.search.Given as goal

abbrev pub invariant-loop-j : goal.invariant-loop-j
invariant-loop-j l = CountingIn l.contest l.work l.count l.j l.leader × (drop (l.contest.query.slots * (nodes_in l.contest + 16)) l.work ≡ drop (l.contest.query.slots * (nodes_in l.contest + 16)) l.initial.work) × (low_in l.contest + l.leader.figure ≤ far)
    × OutlookIn l.contest l.work l.count l.j l.leader.figure l.floor × (l.j ≤ l.contest.wanted)

abbrev pub decreases-loop-j : goal.decreases-loop-j
decreases-loop-j l = l.contest.wanted - l.j
