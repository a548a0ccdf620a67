use Rattle.racks.specs.Job.{racks_of}
use Rattle.queues.proofs.Queueing.{Queueing}
use Rattle.queues.proofs.parts.arrivals.queue_up.Given as goal

abbrev pub invariant-loop-g : goal.invariant-loop-g
invariant-loop-g l = Queueing (racks_of l.job) l.places l.initial.line l.g l.line
