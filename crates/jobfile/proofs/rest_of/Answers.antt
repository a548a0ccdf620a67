-- `jobfile::rest_of` meets its contract. Assumes nothing.
use Rattle.jobfile.proofs.Cards.{rest-past, rest-behind}
use Rattle.jobfile.proofs.rest_of.Goals as goal

pub returns-then-file-at : goal.returns-then-file-at
returns-then-file-at c = rest-past c.args.file.now c.args.at c.if-file-at.true

pub returns : goal.returns
returns c = rest-behind c.args.file.now c.args.at
