-- `parsing::parts::read_entries` meets its contract. Assumes nothing.
use Rattle.racks.specs.Job.{racks_of}
use Rattle.parsing.proofs.Entries.{Entering}
use Rattle.parsing.proofs.parts.read_entries.Given as goal

abbrev pub invariant-loop-g : goal.invariant-loop-g
invariant-loop-g l = Entering (racks_of l.fn.job) l.file l.at l.g l.next l.places l.marks l.twice
