use Rattle.racks.specs.Job.{racks_of}
use Rattle.tables.proofs.Fills.{Ended}
use Rattle.tables.proofs.parts.rack_of.Given as goal

abbrev pub invariant-loop-p : goal.invariant-loop-p
invariant-loop-p l = Ended (racks_of l.job) l.g l.p l.rack
