use Rattle.hands.proofs.Copying.{slid-made, brought-shift, brought-hand, slid-within}
use Rattle.copies.proofs.Tallied.{plus-count}
use Rattle.factors.proofs.Walked.{inside-here, count-shift, count-hand}
use Rattle.moves.proofs.Blocks.{within}
use mathlib.Core.Path.{refl}
use lib.ListN.{length}
use native.Mathlib.Omega.{arith}
use Rattle.hands.proofs.parts.bring_walk.Goals as goal

pub make_chain-requires : goal.make_chain-requires
make_chain-requires c =
    (c.requires.0, c.requires.1, omega (arith, count-shift c.args.left c.args.end c.if-end-eq-FREE.true, c.requires.3), (c.requires.4, c.requires.5))

pub returns-then-end-eq-FREE : goal.returns-then-end-eq-FREE
returns-then-end-eq-FREE c =
    let w = c.make_chain.ensures in
    brought-shift c.args.b c.args.places.now c.args.head c.args.left c.args.end c.requires.0 c.requires.1 c.args.cards.now c.args.hand.now c.requires.6 c.if-end-eq-FREE.true c.args.tally _ _ w.counts (slid-made _ _ _ _ _ w.copies)

pub take_card-requires : goal.take_card-requires
take_card-requires c =
    (within c.args.b (length c.args.places.now) _ c.args.cards.now c.requires.5 (c.requires.2 c.if-end-eq-FREE.false), c.requires.4, c.requires.6)

pub make_chain-shifted-requires : goal.make_chain-shifted-requires
make_chain-shifted-requires c =
    (c.requires.0, c.requires.1, omega (arith, count-hand c.args.left c.args.end c.if-end-eq-FREE.false, plus-count _ _ 1 c.add_copy-held.ensures, c.requires.3), (c.requires.4, c.requires.5))

pub lay_card-requires : goal.lay_card-requires
lay_card-requires c =
    (slid-within c.args.b _ c.args.head _ _ _ (slid-made _ _ _ _ _ c.make_chain-shifted.ensures.copies) c.requires.5 (inside-here _ _ _ c.requires.0), c.requires.4, c.take_card.ensures.long)

pub add_copy-requires : goal.add_copy-requires
add_copy-requires c =
    omega (arith, count-hand c.args.left c.args.end c.if-end-eq-FREE.false, plus-count _ _ 1 c.add_copy-held.ensures, plus-count _ _ _ c.make_chain-shifted.ensures.counts, c.requires.3)

pub returns : goal.returns
returns c =
    let q = c.if-end-eq-FREE.false in
    let w = c.make_chain-shifted.ensures in
    let t = c.take_card.ensures in
    brought-hand c.args.b c.args.places.now c.args.head c.args.left c.args.end c.requires.0 c.requires.1 c.args.cards.now c.args.hand.now c.requires.6 q (c.requires.2 q) c.args.tally _ _ _ _ _ _ _
    c.add_copy-held.ensures w.counts c.add_copy.ensures refl t.card t.long (slid-made _ _ _ _ _ w.copies) c.lay_card.ensures
