use Rattle.bits.proofs.Words.{turn-on_code}
use Rattle.bits.proofs.parts.turn_on.Goals as goal

pub returns : goal.returns
returns c = turn-on_code 64 c.args.word c.args.b c.requires
