use mathlib.Core.Path.{refl}
use Rattle.queues.specs.parts.Queued.{placed}
use Rattle.queues.proofs.parts.arrivals.place_rack.Goals as goal

pub returns : goal.returns
unfolding placed
returns c = refl
