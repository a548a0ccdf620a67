use Rattle.racks.specs.Job.{racks_of}
use Rattle.queues.specs.parts.Queued.{Placed}
use Rattle.racks.proofs.Passing.{At}
use Rattle.queues.proofs.parts.arrivals.place_racks.Given as goal

abbrev pub invariant-loop-p : goal.invariant-loop-p
invariant-loop-p l = At l.job l.p l.low × Placed (racks_of l.job) l.places l.p l.line
