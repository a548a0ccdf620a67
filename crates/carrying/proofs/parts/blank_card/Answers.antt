use native.Mathlib.Omega.{arith}
use Rattle.carrying.proofs.CardBytes.{filled}
use Rattle.carrying.proofs.parts.blank_card.Goals as goal

pub returns : goal.returns
returns c =
    let a = c.args in
    filled a.b a.g _ a.cards.now _ c.requires (c.fill.ensures.after (λ y e. e)) (omega arith)
