use Rattle.racks.specs.Job.{racks_of}
use Rattle.entries.proofs.Once.{Once}
use Rattle.entries.proofs.parts.marked_once.Given as goal

abbrev pub invariant-loop-g : goal.invariant-loop-g
invariant-loop-g l = Once (racks_of l.job) l.places l.marks l.all l.g
