use Rattle.moves.proofs.Blocks.{block-part, block-long}
use native.Mathlib.Omega.{arith}
use mathlib.Core.Path.{◌∙◌}
use Rattle.hands.proofs.ByteLoops.{front_is}
use Rattle.hands.proofs.parts.take_card.Goals as goal

pub returns : goal.returns
returns c =
    let a = c.args in
    let f = front_is a.b a.hand.now _ _ (c.copy_from_slice.ensures.after ∙ block-part a.b a.from a.cards.now) (block-long a.b a.from a.cards.now c.requires.0) (omega (arith, c.requires.1, c.requires.2)) in
    record { card = f.0; long = f.1 ∙ c.requires.2 }
