-- `relax::relax` lowers the label or has nothing to lower. The sum fits, as it is less than the old label. Assumes nothing.
use mathlib.Core.Path.{refl}
use native.Mathlib.Omega.{arith}
use Rattle.labels.specs.Search.{Relaxed}
use Rattle.labels.proofs.relax.relax.Goals as goal

pub returns-then-old-rest : goal.returns-then-old-rest
returns-then-old-rest c = Relaxed.kept (λ free. grind arith) refl

pub returns : goal.returns
returns c = Relaxed.fell c.if-barred-t.false (omega arith) refl
