use native.Mathlib.Omega.{arith}
use Rattle.carrying.proofs.CardBytes.{inside}
use Rattle.carrying.proofs.Carries.{moved-held}
use Rattle.carrying.proofs.parts.move_card.Goals as goal

pub copy_card-requires : goal.copy_card-requires
copy_card-requires c =
    let a = c.args in
    omega (arith, inside a.b a.from _ _ c.requires.slots.0 c.requires.sized, inside a.b a.to _ _ c.requires.slots.1 c.requires.sized)

pub blank_card-requires : goal.blank_card-requires
blank_card-requires c =
    let a = c.args in
    omega (arith, inside a.b a.from _ _ c.requires.slots.0 c.requires.sized, inside a.b a.to _ _ c.requires.slots.1 c.requires.sized)

pub returns : goal.returns
returns c =
    let a = c.args in
    moved-held a.b a.from a.to a.places.now a.cards.now _ _ c.requires.slots.0 c.copy_card.ensures c.blank_card.ensures
