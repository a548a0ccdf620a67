use Rattle.queues.specs.parts.Line.{queue_of}
use Rattle.pairing.proofs.Pairing.{Paired}
use Rattle.pairing.proofs.parts.plan_rack.Given as goal

abbrev pub invariant-loop-h : goal.invariant-loop-h
invariant-loop-h l = Paired l.bits (queue_of l.line) l.head l.end l.low l.initial.log l.at l.log l.h l.k l.base l.rest
