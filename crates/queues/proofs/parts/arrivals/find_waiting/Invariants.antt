use Rattle.queues.specs.parts.Queued.{Awaiting}
use Rattle.queues.proofs.parts.arrivals.find_waiting.Given as goal

abbrev pub invariant-loop-p : goal.invariant-loop-p
invariant-loop-p l = Awaiting l.p l.line l.word
