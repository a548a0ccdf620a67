use Rattle.bits.proofs.Words.{turn-off_code}
use Rattle.bits.proofs.parts.turn_off.Goals as goal

pub returns : goal.returns
returns c = turn-off_code c.args.word c.args.b c.ranges.word.fits c.requires
