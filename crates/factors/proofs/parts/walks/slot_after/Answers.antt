use mathlib.Core.Path.{refl}
use native.Mathlib.Omega.{arith}
use Rattle.factors.proofs.Walked.{inside-here}
use Rattle.factors.proofs.Stretches.{stepping_begin, stepping-more, stepping-end}
use Rattle.factors.proofs.parts.walks.slot_after.Goals as goal

pub loop-k-init : goal.loop-k-init
loop-k-init c = stepping_begin _ _ _ c.requires.0

pub offset_bounds-places-y : goal.offset_bounds-places-y
offset_bounds-places-y c = omega (arith, inside-here _ _ _ c.loop-k.invariant.ahead, c.requires.1)

pub bounds-places-y : goal.bounds-places-y
bounds-places-y c = inside-here _ _ _ c.loop-k.invariant.ahead

pub loop-k-preserved : goal.loop-k-preserved
loop-k-preserved c = let l = c.loop-k in stepping-more _ _ _ _ _ l.invariant (omega arith) _ refl

pub returns : goal.returns
returns c = stepping-end _ _ _ _ _ c.loop-k.invariant (omega arith)
