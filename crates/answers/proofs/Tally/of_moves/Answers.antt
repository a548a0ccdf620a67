-- `answers::Tally::of_moves` meets its contract. Assumes nothing.
use mathlib.Core.Path.{refl}
use Rattle.answers.proofs.Tally.of_moves.Goals as goal

pub returns : goal.returns
returns c = refl
