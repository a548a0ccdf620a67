use Rattle.racks.specs.Job.{racks_of}
use Rattle.racks.proofs.Passing.{At}
use Rattle.planner.specs.parts.Targets.{PairsPut}
use Rattle.planner.proofs.Pairs.{pairs_up_to}
use Rattle.planner.proofs.parts.write_plan.Given as goal

abbrev pub invariant-loop-p : goal.invariant-loop-p
invariant-loop-p l = At l.job l.p l.low × PairsPut l.initial.lent 0 (pairs_up_to (racks_of l.job) l.places l.p) l.pairs l.lent
