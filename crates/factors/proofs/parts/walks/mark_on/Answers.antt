use mathlib.Core.Path.{refl}
use native.Mathlib.Omega.{arith}
use Rattle.factors.proofs.Walking.{on-free, on-turn}
use Rattle.factors.proofs.Chains.{onward-end}
use Rattle.factors.proofs.parts.walks.mark_on.Goals as goal

pub returns-then-w : goal.returns-then-w
returns-then-w c =
    let p = c.requires in
    rw c.if-w.true (on-free p.0 _ _ p.1 _ _ p.2 _ _ _ c.mark_along-w.ensures c.if-w.true)

pub overflow_cast-w : goal.overflow_cast-w
overflow_cast-w c =
    omega (arith, c.mark_along-w.ensures.head-is, onward-end c.requires.0 c.args.h c.requires.1, c.requires.0.small)

pub returns : goal.returns
returns c =
    let p = c.requires in
    on-turn p.0 _ _ p.1 _ _ p.2 _ _ _ c.mark_along-w.ensures c.if-w.false _ _ refl c.hand_end-end.ensures
