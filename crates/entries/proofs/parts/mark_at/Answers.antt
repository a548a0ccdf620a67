use native.Mathlib.Omega.{arith}
use Rattle.entries.proofs.Once.{mark-at-free, mark-at-none, mark-at-slot}
use Rattle.entries.proofs.parts.mark_at.Goals as goal

pub returns-then-x-eq-FREE : goal.returns-then-x-eq-FREE
returns-then-x-eq-FREE c = mark-at-free _ _ _ c.if-x-eq-FREE.true

pub returns-then-slots-at : goal.returns-then-slots-at
returns-then-slots-at c = mark-at-none _ _ _ c.if-x-eq-FREE.false c.if-slots-at.true

pub returns : goal.returns
returns c = mark-at-slot _ _ _ c.if-x-eq-FREE.false (omega arith)
