-- `seineflute::seineflute_limits` meets its contract. Assumes nothing.
use mathlib.Core.Path.{refl}
use Rattle.seineflute.proofs.seineflute_limits.Goals as goal

pub returns : goal.returns
returns c = refl
