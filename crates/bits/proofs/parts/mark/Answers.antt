use Rattle.bits.proofs.Sets.{mark_code}
use Rattle.bits.proofs.parts.mark.Goals as goal

pub returns : goal.returns
returns c = mark_code _ _ _ _ c.turn_on.ensures c.turn_on-2.ensures
