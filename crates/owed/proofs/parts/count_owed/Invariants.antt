use Rattle.racks.specs.Job.{racks_of}
use Rattle.owed.proofs.Owed.{CountedTo}
use Rattle.owed.proofs.parts.count_owed.Given as goal

abbrev pub invariant-loop-g : goal.invariant-loop-g
invariant-loop-g l = CountedTo (racks_of l.fn.job) l.places l.g l.owes
