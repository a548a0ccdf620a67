use Rattle.entries.proofs.Fills.{between_none, between_more, between_done}
use native.Mathlib.Omega.{arith}
use Rattle.entries.proofs.parts.fill.Goals as goal

pub loop-g-init : goal.loop-g-init
loop-g-init c = (omega arith, λ l. absurd (omega arith), between_none _ _ _)

pub bounds-list-g : goal.bounds-list-g
bounds-list-g c = omega (arith, c.loop-g.invariant.2.long)

pub loop-g-preserved : goal.loop-g-preserved
loop-g-preserved c =
    let l = c.loop-g in
    (omega arith, λ _. omega arith, between_more _ _ _ _ _ l.invariant.0 (omega (arith, l.invariant.2.long)) l.invariant.2)

pub returns : goal.returns
returns c =
    let l = c.loop-g in
    between_done _ _ _ _ _ _ l.invariant.0 (omega arith) l.invariant.1 l.invariant.2
