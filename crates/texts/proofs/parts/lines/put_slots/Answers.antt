use mathlib.Core.Path.{◌≡◌}
use native.Mathlib.Omega.{arith}
use Rattle.moves.proofs.Blocks.{within}
use Rattle.texts.proofs.Cards.{cards-first, card-room, card-next}
use Rattle.texts.proofs.parts.lines.put_slots.Goals as goal

pub loop-g-init : goal.loop-g-init
loop-g-init c = cards-first _ _ _ _

pub put_card-next-requires : goal.put_card-next-requires
put_card-next-requires c =
    let l = c.loop-g in
    (within c.args.b c.args.s l.g c.args.cards.now c.requires.0 (omega arith), card-room c.args.b c.args.cards.now l.g l.invariant c.args.s c.requires.0 (omega arith) c.requires.1)

pub loop-g-preserved : goal.loop-g-preserved
loop-g-preserved c =
    card-next c.args.b c.args.cards.now c.loop-g.g c.loop-g.invariant c.put_card-next.ensures

pub returns : goal.returns
returns c =
    let e : c.loop-g.g ≡ c.args.s = omega arith in
    rw (← e) c.loop-g.invariant
