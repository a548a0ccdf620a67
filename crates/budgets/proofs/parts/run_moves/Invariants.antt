use Prim.Native.Nat.{◌-◌}
use Rattle.racks.specs.Job.{racks_of}
use Rattle.moves.specs.Moves.{held}
use Rattle.budgets.specs.parts.Turns.{Turn}
use Rattle.budgets.proofs.Turns.{MovesOnly}
use Rattle.budgets.proofs.parts.run_moves.Given as goal

abbrev pub invariant-loop-tally : goal.invariant-loop-tally
invariant-loop-tally l = MovesOnly l.tally × Turn (racks_of l.job) l.job.ends l.b l.k (held l.initial.places l.initial.cards) l.tally (held l.places l.cards) l.line l.bits l.log

abbrev pub decreases-loop-tally : goal.decreases-loop-tally
decreases-loop-tally l = l.k - l.tally.moves
