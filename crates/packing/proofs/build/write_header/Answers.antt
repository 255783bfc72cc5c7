-- `packing::build::write_header` meets its contract. Assumes nothing.
use Prim.Native.Nat.{ℕ}
use mathlib.Core.Path.{subst}
use Rattle.packing.proofs.BuildLaws.{Wrote, header_written}
use Rattle.packing.proofs.build.write_header.Goals as goal

pub returns : goal.returns
returns c =
    header_written c.args.sizes.edition c.args.sizes.n c.args.sizes.m c.args.sizes.k c.args.image.now _ _ _ _ _ _ _ _ c.write.ensures c.write-2.ensures c.write-3.ensures c.write-4.ensures c.write-5.ensures
    (subst (λ (x : ℕ). Wrote 4 12 x c.write-5.new.buffer c.write-6.new.buffer) c.costs_start.ensures c.write-6.ensures)
    (subst (λ (x : ℕ). Wrote 4 16 x c.write-6.new.buffer c.write-7.new.buffer) c.image_length.ensures c.write-7.ensures)
    c.write-8.ensures
