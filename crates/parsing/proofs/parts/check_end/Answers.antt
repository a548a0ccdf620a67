-- `parsing::parts::check_end` meets its contract. Assumes nothing.
use Rattle.parsing.proofs.Cards.{end-15, end-16, end-0}
use Rattle.parsing.proofs.parts.check_end.Goals as goal

pub returns-then-left-want : goal.returns-then-left-want
returns-then-left-want c = end-15 c.args.file.now c.args.at c.args.want _ c.saturating_sub-left.ensures c.if-left-want.true

pub returns-then-want-left : goal.returns-then-want-left
returns-then-want-left c = end-16 c.args.file.now c.args.at c.args.want _ c.saturating_sub-left.ensures c.if-want-left.true

pub returns : goal.returns
returns c = end-0 c.args.file.now c.args.at c.args.want _ c.saturating_sub-left.ensures c.if-left-want.false c.if-want-left.false
