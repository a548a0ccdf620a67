use mathlib.Core.Path.{◌≡◌}
use lib.ListN.{length}
use Rattle.racks.specs.Job.{racks_of}
use Rattle.racks.proofs.Passing.{At}
use Rattle.entries.proofs.Once.{OpenTo}
use Rattle.entries.proofs.parts.shut_spares.Given as goal

abbrev pub invariant-loop-p : goal.invariant-loop-p
invariant-loop-p l = At l.job l.p l.low × (length l.marks ≡ 8193) × OpenTo (racks_of l.job) l.low l.marks
