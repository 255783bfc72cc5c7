-- `image::reading::read_words` meets its contract. Assumes nothing.
use mathlib.Core.Path.{◌≡◌}
use mathlib.Core.List.{◌++◌, map}
use lib.ListN.{take, drop}
use Rattle.image.specs.Bytes.{decode}
use Rattle.image.proofs.reading.read_words.Given as goal

abbrev pub invariant-loop-i : goal.invariant-loop-i
invariant-loop-i g l = map g.W.Word.value l.word-items ≡ take l.i (decode g.W.Word.BYTES l.count l.source) ++ drop l.i (map g.W.Word.value l.initial.word-items)
