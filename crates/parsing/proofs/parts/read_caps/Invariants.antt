-- `parsing::parts::read_caps` meets its contract. Assumes nothing.
use Rattle.parsing.proofs.Capacities.{Capping}
use Rattle.parsing.proofs.parts.read_caps.Given as goal

abbrev pub invariant-loop-p : goal.invariant-loop-p
invariant-loop-p l = Capping l.file l.at l.n l.p l.next l.total l.caps
