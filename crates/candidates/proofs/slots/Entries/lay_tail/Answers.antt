-- `slots::Entries::lay_tail` copies a part of the workspace, which is the beginning of the tail, to a part of the path. Assumes nothing.
use Prim.Native.Nat.{ℕ, ◌+◌, ◌-◌, ◌≤◌, ◌<◌}
use native.Mathlib.Omega.{arith}
use mathlib.Core.Path.{◌≡◌, ◌∙◌}
use lib.ListN.{get_or, take, drop}
use lib.Seq.{get_or-take}
use borrow.Rule.Slice.PartMut.{mid_len}
use Rattle.candidates.specs.Slots.{entry_at}
use Rattle.candidates.proofs.EntryLaws.{readable_less, tail_room, tail_words}
use Rattle.candidates.proofs.LayingLaws.{no_tail, tail_laid}
use Rattle.candidates.proofs.slots.Entries.lay_tail.Goals as goal

pub returns-then-count-shared : goal.returns-then-count-shared
returns-then-count-shared c = no_tail c.args.shared c.args.count c.args.path.now (entry_at c.args.self.now.nodes c.args.self.now.work.now c.args.place).tail c.if-count-shared.true

pub load-requires : goal.load-requires
load-requires c =
    let words : let from = c.words_from-from.result + 15 in let k = c.args.count - c.args.shared in take (from + k - from) (drop from c.args.self.now.work.now) ≡ take k (entry_at c.args.self.now.nodes c.args.self.now.work.now c.args.place).tail = tail_words c.args.self.now.nodes c.args.self.now.work.now c.args.place (c.args.count - c.args.shared) c.requires.in_tail.1 (readable_less (c.args.place + 1) (omega (arith, c.requires.inside)) c.args.self.now.readable) c.words_from-from.result c.words_from-from.ensures.0 in
    let small : (i : ℕ) → let from = c.words_from-from.result + 15 in let k = c.args.count - c.args.shared in i < k → get_or (take (from + k - from) (drop from c.args.self.now.work.now)) i 0 ≤ c.args.self.now.nodes = λ i h. rw words (omega (arith, get_or-take (c.args.count - c.args.shared) (entry_at c.args.self.now.nodes c.args.self.now.work.now c.args.place).tail i 0 h, c.requires.nodes_within i (omega (arith, c.requires.in_tail.1)))) in
    let k = c.args.count - c.args.shared in
    let room = tail_room c.args.self.now.nodes c.args.self.now.work.now c.args.place k c.requires.in_tail.1 in
    let l = mid_len (c.words_from-from.result + 15) (c.words_from-from.result + 15 + k) c.args.self.now.work.now (omega (arith, c.words_from-from.ensures.1)) in
    record { equally_long = omega (arith, mid_len c.args.shared c.args.count c.args.path.now (omega arith)); nodes_fit = λ i h. let z = small i (omega arith) in omega (arith, c.args.self.now.readable.few) }

pub returns : goal.returns
returns c =
    let words : let from = c.words_from-from.result + 15 in let k = c.args.count - c.args.shared in take (from + k - from) (drop from c.args.self.now.work.now) ≡ take k (entry_at c.args.self.now.nodes c.args.self.now.work.now c.args.place).tail = tail_words c.args.self.now.nodes c.args.self.now.work.now c.args.place (c.args.count - c.args.shared) c.requires.in_tail.1 (readable_less (c.args.place + 1) (omega (arith, c.requires.inside)) c.args.self.now.readable) c.words_from-from.result c.words_from-from.ensures.0 in
    tail_laid c.args.shared c.args.count c.args.path.now (omega arith) (c.load.ensures ∙ words)

pub slice_bounds-load-end : goal.slice_bounds-load-end
slice_bounds-load-end c = omega (arith, c.words_from-from.ensures.1, tail_room c.args.self.now.nodes c.args.self.now.work.now c.args.place (c.args.count - c.args.shared) c.requires.in_tail.1)
