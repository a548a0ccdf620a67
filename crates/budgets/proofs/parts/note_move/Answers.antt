use mathlib.Core.Path.{ap, ◌∙◌}
use lib.ListN.{length}
use Rattle.bits.proofs.Sets.{length-included}
use Rattle.budgets.proofs.PhaseRuns.{move-noted}
use Rattle.budgets.proofs.parts.note_move.Goals as goal

pub clear-requires : goal.clear-requires
clear-requires c = (ap length c.mark.ensures ∙ length-included _ _ ∙ c.requires.2, c.requires.0.to_lt)

pub returns : goal.returns
returns c = move-noted _ _ _ _ _ _ c.mark.ensures c.clear.ensures
