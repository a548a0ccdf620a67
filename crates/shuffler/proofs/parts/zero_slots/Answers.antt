use Rattle.shuffler.proofs.Settling.{zeroed-none, zeroed-more}
use Rattle.moves.proofs.Blocks.{within}
use mathlib.Core.Path.{◌≡◌, refl, ◌∙◌}
use native.Mathlib.Omega.{arith}
use Rattle.shuffler.proofs.parts.zero_slots.Goals as goal

pub loop-i-init : goal.loop-i-init
loop-i-init c = zeroed-none _ _ _

pub offset_bounds-frees-i : goal.offset_bounds-frees-i
offset_bounds-frees-i c = omega (arith, c.requires.1)

pub bounds-frees-i : goal.bounds-frees-i
bounds-frees-i c = omega (arith, c.requires.1)

pub blank_card-requires : goal.blank_card-requires
blank_card-requires c =
    let l = c.loop-i in
    within c.args.b c.args.slots _ l.cards (l.invariant.size ∙ c.requires.2) (c.requires.0 l.i (omega arith))

pub loop-i-preserved : goal.loop-i-preserved
loop-i-preserved c =
    let l = c.loop-i in
    zeroed-more c.args.b c.args.slots c.args.frees.now l.i c.args.cards.now l.cards _ l.invariant _ refl (c.requires.0 l.i (omega arith)) c.requires.2 c.blank_card.ensures

pub returns : goal.returns
returns c = let e : c.args.n ≡ c.loop-i.i = omega arith in rw e c.loop-i.invariant
