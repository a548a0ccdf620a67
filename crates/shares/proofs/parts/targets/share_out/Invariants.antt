use Rattle.racks.specs.Job.{racks_of}
use Rattle.racks.proofs.Passing.{At}
use Rattle.shares.proofs.Shares.{Sharing}
use Rattle.shares.proofs.parts.targets.share_out.Given as goal

abbrev pub invariant-loop-p : goal.invariant-loop-p
invariant-loop-p l = At l.job l.p l.low × Sharing (racks_of l.job) l.places l.p l.nexts l.stops l.pairs
