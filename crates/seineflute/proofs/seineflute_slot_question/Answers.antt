-- `seineflute::seineflute_slot_question` meets its contract. Assumes nothing.
use mathlib.Core.Path.{ap, ◌∙◌}
use Rattle.flat.specs.Flat.{slot_numbers}
use Rattle.seineflute.proofs.seineflute_slot_question.Goals as goal

pub returns : goal.returns
returns c = c.from.ensures ∙ ap slot_numbers c.slot_question.ensures
