use Rattle.entries.proofs.Marks.{twice_kept, twice-or}
use Rattle.entries.proofs.parts.first_twice.Goals as goal

pub returns-then-again : goal.returns-then-again
returns-then-again c = rw (c.or.ensures, c.if-again.true) (twice-or c.args.g c.args.was)

pub returns : goal.returns
returns c = rw c.if-again.false (twice_kept c.args.g c.args.was)
