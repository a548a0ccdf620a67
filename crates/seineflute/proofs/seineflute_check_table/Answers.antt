-- `seineflute::seineflute_check_table` meets its contract. Assumes nothing.
use mathlib.Core.Path.{◌∙◌}
use Rattle.seineflute.proofs.seineflute_check_table.Goals as goal

pub returns : goal.returns
returns c = c.from.ensures ∙ c.check_table.ensures
