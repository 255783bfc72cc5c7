-- `packing::build::write_words` meets its contract. Assumes nothing.
use Prim.Native.Nat.{◌+◌, ◌*◌, ◌≤◌}
use mathlib.Core.Path.{◌≡◌}
use mathlib.Core.List.{◌++◌, map}
use lib.ListN.{length, take, drop}
use Rattle.image.specs.Bytes.{encode}
use Rattle.packing.proofs.build.write_words.Given as goal

abbrev pub invariant-loop-i : goal.invariant-loop-i
invariant-loop-i g l = (l.i ≤ length l.words) × (length l.image ≡ length l.initial.image) × (l.image ≡ (take l.start l.initial.image ++ encode g.W.Word.BYTES (take l.i (map g.W.Word.value l.words))) ++ drop (l.start + g.W.Word.BYTES * l.i) l.initial.image)
