use Rattle.bits.proofs.Walks.{walk_from}
use Rattle.bits.proofs.parts.walk_from.Goals as goal

pub returns : goal.returns
returns c = walk_from c.requires.1 c.args.low c.requires.0
