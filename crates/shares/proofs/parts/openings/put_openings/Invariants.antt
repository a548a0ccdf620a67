use Rattle.racks.specs.Job.{racks_of}
use Rattle.racks.proofs.Passing.{At}
use Rattle.shares.proofs.Openings.{OpeningsPut}
use Rattle.shares.proofs.parts.openings.put_openings.Given as goal

abbrev pub invariant-loop-p : goal.invariant-loop-p
invariant-loop-p l = At l.job l.p l.low × OpeningsPut (racks_of l.job) l.places l.initial.lent l.p l.k l.lent
