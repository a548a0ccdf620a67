use Rattle.bits.proofs.Fills.{fill_none, fill-some}
use Rattle.bits.proofs.parts.fill_word.Goals as goal

pub returns-then-word-ne0 : goal.returns-then-word-ne0
returns-then-word-ne0 c = fill-some _ _ _ _ c.if-word-ne0.true c.turn_on.ensures

pub returns-else-word-ne0 : goal.returns-else-word-ne0
returns-else-word-ne0 c = fill_none _ _ _ c.if-word-ne0.false
