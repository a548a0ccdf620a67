use mathlib.Core.Path.{refl}
use Rattle.entries.proofs.Fills.{cleared-new}
use Rattle.parsing.proofs.parts.read_table.Goals as goal

pub mark_users-requires : goal.mark_users-requires
mark_users-requires c = (c.requires.0, cleared-new _ refl)
