use mathlib.Core.Path.{refl}
use native.Mathlib.Omega.{arith}
use Rattle.carrying.proofs.CardBytes.{copy_more, copy_done}
use Rattle.carrying.proofs.parts.copy_card.Goals as goal

pub loop-i-init : goal.loop-i-init
loop-i-init c = refl

pub loop-i-preserved : goal.loop-i-preserved
loop-i-preserved c = copy_more _ _ _ _ _ _ (omega arith) (omega arith) c.loop-i.invariant

pub returns : goal.returns
returns c = copy_done _ _ _ c.loop-i.i _ _ c.loop-i.invariant (omega arith)
