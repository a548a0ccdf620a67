use mathlib.Core.Path.{◌≡◌}
use lib.ListN.{length}
use Rattle.racks.specs.Job.{racks_of}
use Rattle.racks.proofs.Passing.{At}
use Rattle.entries.proofs.Fills.{MarkedTo}
use Rattle.entries.proofs.parts.mark_users.Given as goal

abbrev pub invariant-loop-p : goal.invariant-loop-p
invariant-loop-p l = At l.job l.p l.low × (length l.marks ≡ length l.initial.marks) × MarkedTo (racks_of l.job) l.low l.marks
