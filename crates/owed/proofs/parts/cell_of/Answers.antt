use mathlib.Core.Path.{refl}
use Rattle.owed.proofs.parts.cell_of.Goals as goal

pub returns : goal.returns
returns c = refl
