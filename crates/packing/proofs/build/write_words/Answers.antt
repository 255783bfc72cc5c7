-- `packing::build::write_words` meets its contract. Assumes nothing.
use Prim.Native.Nat.{ℕ, ◌+◌, ◌*◌}
use native.Mathlib.Omega.{arith}
use mathlib.Core.Path.{◌≡◌, refl, sym, ◌∙◌, ap, ap₂}
use mathlib.Core.List.{◌++◌, map}
use lib.ListN.{length, get_or, take, drop}
use Rattle.std.proofs.lemmas.List.{length-map, get_or-map}
use Rattle.image.specs.Bytes.{bytes, encode}
use Rattle.image.proofs.ByteLaws.{write_none, write_more, write_all}
use Rattle.packing.proofs.build.write_words.Goals as goal

pub loop-i-init : goal.loop-i-init
loop-i-init g c = (omega arith, refl, write_none g.W.Word.BYTES (map g.W.Word.value c.args.words.now) c.args.image.now c.args.start)

pub loop-i-preserved : goal.loop-i-preserved
loop-i-preserved g c =
    let w = g.W.Word.BYTES in
    let l = map g.W.Word.value c.args.words.now in
    let word : g.W.Word.value c.index-words-i.result ≡ get_or l c.loop-i.i 0 = ap g.W.Word.value c.index-words-i.is ∙ sym (get_or-map g.W.Word.value c.args.words.now c.loop-i.i c.index-words-i.result 0 c.loop-i-test.true) in
    let wrote = c.write.ensures ∙ ap₂ (λ (a x : ℕ). take (c.args.start + a * c.loop-i.i) c.loop-i.image ++ (bytes w x ++ drop (c.args.start + a * c.loop-i.i + w) c.loop-i.image)) c.BYTES.ensures word in
    (omega arith, c.write.auto.buffer ∙ c.loop-i.invariant.1, wrote ∙ write_more w l c.loop-i.image c.args.image.now c.args.start c.loop-i.i (omega (arith, length-map c.args.words.now g.W.Word.value)) (omega arith) c.loop-i.invariant.2)

pub returns : goal.returns
returns g c =
    let w = g.W.Word.BYTES in
    let l = map g.W.Word.value c.args.words.now in
    let long : length l ≡ length c.args.words.now = length-map c.args.words.now g.W.Word.value in
    write_all w l _ c.args.image.now c.args.start c.loop-i.i (omega (arith, long)) c.loop-i.invariant.2
    ∙ ap (λ (n : ℕ). take c.args.start c.args.image.now ++ (encode w l ++ drop (c.args.start + w * n) c.args.image.now)) long
