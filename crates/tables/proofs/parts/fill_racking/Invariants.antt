use mathlib.Core.Path.{◌≡◌}
use lib.ListN.{length}
use Rattle.racks.specs.Job.{racks_of}
use Rattle.racks.proofs.Passing.{At}
use Rattle.tables.proofs.Fills.{FilledTo}
use Rattle.tables.proofs.parts.fill_racking.Given as goal

abbrev pub invariant-loop-p : goal.invariant-loop-p
invariant-loop-p l = At l.job l.p l.low × (length l.racking ≡ 4096) × FilledTo (racks_of l.job) l.low l.racking
