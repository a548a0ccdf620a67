-- `jobfile::card_bytes` meets its contract. Assumes nothing.
use mathlib.Core.Path.{◌∙◌}
use Rattle.jobfile.proofs.Cards.{cards-refused, cards-done}
use Rattle.jobfile.proofs.card_bytes.Goals as goal

pub returns-in-Ok : goal.returns-in-Ok
returns-in-Ok c = rw c.in-Ok.is (c.rest_of.ensures ∙ cards-done c.args.file.now c.in-Ok.job)

pub returns-in-Err : goal.returns-in-Err
returns-in-Err c = rw c.in-Err.is (cards-refused c.args.file.now _)
