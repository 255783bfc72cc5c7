-- `image::reading::read_words` meets its contract. Assumes nothing.
use Prim.Native.Nat.{ℕ, ◌*◌, ◌<◌}
use native.Mathlib.Omega.{arith}
use mathlib.Core.Path.{◌≡◌, sym, ◌∙◌, ap, ap₂}
use mathlib.Core.List.{List, ◌++◌, map}
use lib.ListN.{length, get_or, take, drop}
use lib.Seq.{take_all, length-take-le}
use Rattle.std.proofs.lemmas.List.{map-set, length-map, map-append, append-nil, drop_all, drop-map}
use Rattle.image.specs.Bytes.{field, decode}
use Rattle.image.proofs.ByteLaws.{length_decode, decode_at}
use Rattle.image.proofs.SliceLaws.{copy_more}
use Rattle.image.proofs.reading.read_words.Goals as goal

pub loop-i-preserved : goal.loop-i-preserved
loop-i-preserved g c =
    let s = decode g.W.Word.BYTES c.args.count c.args.source.now in
    let part = take c.args.count c.args.words.now in
    let many : length part ≡ c.args.count = length-take-le c.args.count c.args.words.now c.requires.1 in
    let inside : c.loop-i.i < c.args.count = omega arith in
    let read : g.W.Word.value c.read.result ≡ get_or s c.loop-i.i 0 = c.read.ensures ∙ ap (λ w. field g.W.Word.BYTES c.args.source.now (w * c.loop-i.i)) c.BYTES.ensures ∙ sym (decode_at g.W.Word.BYTES c.args.count c.args.source.now c.loop-i.i inside) in
    map-set g.W.Word.value c.loop-i.word-items c.loop-i.i c.read.result ∙ rw (c.loop-i.invariant, read) (copy_more s (map g.W.Word.value part) c.loop-i.i (omega (arith, length_decode g.W.Word.BYTES c.args.count c.args.source.now)) (omega (arith, length-map part g.W.Word.value)))

pub returns : goal.returns
returns g c =
    let s = decode g.W.Word.BYTES c.args.count c.args.source.now in
    let part = take c.args.count c.args.words.now in
    let many : length part ≡ c.args.count = length-take-le c.args.count c.args.words.now c.requires.1 in
    let done : map g.W.Word.value c.loop-i.word-items ≡ s = c.loop-i.invariant ∙ rw (take_all c.loop-i.i s (omega (arith, length_decode g.W.Word.BYTES c.args.count c.args.source.now)), drop_all c.loop-i.i (map g.W.Word.value part) (omega (arith, length-map part g.W.Word.value))) (append-nil s) in
    map-append g.W.Word.value c.loop-i.word-items (drop c.args.count c.args.words.now) ∙ ap₂ (λ (a b : List ℕ). a ++ b) done (sym (drop-map g.W.Word.value c.args.count c.args.words.now))
