use native.Mathlib.Omega.{arith}
use Rattle.carrying.specs.parts.Carrying.{unflat}
use Rattle.texts.specs.Lines.{arrow}
use Rattle.texts.proofs.Writing.{left-first, item-room, item-next, items-done}
use Rattle.texts.proofs.Arrows.{unflat-long, unflat-at}
use Rattle.texts.proofs.parts.arrows.put_arrows.Goals as goal

pub loop-i-init : goal.loop-i-init
loop-i-init c = left-first _ _ _

pub put_arrow-next-requires : goal.put_arrow-next-requires
put_arrow-next-requires c =
    let pairs = c.args.pairs.now in
    rw (unflat-at pairs c.loop-i.i (omega arith)) at (item-room arrow (unflat pairs) (0, 0) c.loop-i.i c.loop-i.invariant (omega (arith, unflat-long pairs)) c.requires)

pub loop-i-preserved : goal.loop-i-preserved
loop-i-preserved c =
    let pairs = c.args.pairs.now in
    item-next arrow (unflat pairs) (0, 0) c.loop-i.i c.loop-i.invariant (omega (arith, unflat-long pairs)) (rw (unflat-at pairs c.loop-i.i (omega arith)) c.put_arrow-next.ensures)

pub returns : goal.returns
returns c =
    items-done arrow (unflat c.args.pairs.now) (0, 0) c.loop-i.i c.loop-i.invariant (omega (arith, unflat-long c.args.pairs.now))
