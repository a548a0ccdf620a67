use mathlib.Core.Path.{◌≡◌}
use lib.ListN.{length}
use Rattle.racks.specs.Job.{racks_of}
use Rattle.racks.proofs.Passing.{At}
use Rattle.planner.proofs.Pairs.{pairs_up_to}
use Rattle.planner.proofs.parts.count_pairs.Given as goal

abbrev pub invariant-loop-p : goal.invariant-loop-p
invariant-loop-p l = At l.job l.p l.low × (l.pairs ≡ length (pairs_up_to (racks_of l.job) l.places l.p))
