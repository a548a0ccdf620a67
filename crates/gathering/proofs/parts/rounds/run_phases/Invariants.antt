use Prim.Native.Nat.{◌-◌}
use Rattle.racks.specs.Job.{racks_of}
use Rattle.moves.specs.Moves.{held}
use Rattle.gathering.proofs.Gathers.{Sofar}
use Rattle.gathering.proofs.parts.rounds.run_phases.Given as goal

abbrev pub invariant-loop-cell : goal.invariant-loop-cell
invariant-loop-cell l =
    Sofar (racks_of l.job) l.job.ends l.b (held l.initial.places l.initial.cards) l.tally (held l.places l.cards) l.racking l.line l.bits l.log l.owes l.awaits l.cells l.cell

abbrev pub decreases-loop-cell : goal.decreases-loop-cell
decreases-loop-cell l =
    4096 - l.tally.moves
