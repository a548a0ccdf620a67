use mathlib.Core.Path.{◌≡◌}
use lib.ListN.{length}
use Rattle.racks.specs.Job.{racks_of}
use Rattle.entries.specs.parts.Marks.{twice_in}
use Rattle.entries.proofs.Marks.{Passed}
use Rattle.entries.proofs.parts.check_marked.Given as goal

abbrev pub invariant-loop-g : goal.invariant-loop-g
invariant-loop-g l = (length l.marks ≡ length l.initial.marks) × Passed (racks_of l.fn.job) l.places l.marks (twice_in l.twice) l.g
