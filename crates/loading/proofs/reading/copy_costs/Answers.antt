-- `reading::copy_costs`: the costs at all indices are the whole column. Assumes nothing.
use mathlib.Core.Path.{sym, ◌∙◌, ap}
use Rattle.image.specs.Bytes.{decode}
use Rattle.image.proofs.ByteLaws.{length_decode}
use Rattle.loading.specs.Selected.{at_places}
use Rattle.loading.proofs.SelectLaws.{indices_all, at_all_places}
use Rattle.loading.proofs.DecodeLaws.{whole}
use Rattle.image.proofs.ByteLaws.{as_read}
use Rattle.loading.proofs.reading.copy_costs.Goals as goal

pub returns-then-kept-m : goal.returns-then-kept-m
returns-then-kept-m c =
    let column = decode 4 c.args.m c.args.column.now in
    let all = indices_all c.requires.2 c.if-kept-m.true in
    as_read 4 _ _ c.args.weights.now c.read_words.ensures ∙ whole column c.args.weights.now (c.requires.3 ∙ c.if-kept-m.true) ∙ sym (ap (λ ks. at_places ks column) all ∙ at_all_places column (length_decode 4 c.args.m c.args.column.now))
