use Rattle.hands.proofs.Copying.{slot-none, slot-brought}
use Rattle.copies.proofs.Progress.{due-count}
use Rattle.factors.specs.parts.Walks.{COUNTED}
use native.Mathlib.Omega.{arith}
use Rattle.hands.proofs.parts.bring_slot.Goals as goal

pub returns-then-seen-k-eq-COUNTED : goal.returns-then-seen-k-eq-COUNTED
returns-then-seen-k-eq-COUNTED c = slot-none _ _ c.args.k _ _ _ _ c.if-seen-k-eq-COUNTED.true c.requires.7

pub bring_walk-requires : goal.bring_walk-requires
bring_walk-requires c =
    let w = c.walk_factor-w in
    let n = due-count c.args.places.now c.args.seen.now COUNTED c.args.k c.if-seen-k-eq-COUNTED.false w.result.head w.result.left w.result.end _ w.ensures in
    (w.ensures.inside, c.requires.0.small, w.ensures.held, omega (arith, n, c.requires.4), c.requires.5, c.requires.6, c.requires.7)

pub returns : goal.returns
returns c =
    let w = c.walk_factor-w in
    slot-brought _ _ c.args.k _ _ _ c.if-seen-k-eq-COUNTED.false w.result.head w.result.left w.result.end _ w.ensures _ _ _ _ c.bring_walk.ensures
