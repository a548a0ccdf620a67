use mathlib.Core.Path.{◌≡◌}
use Rattle.racks.specs.Table.{free}
use Rattle.counting.specs.Count.{count}
use Rattle.queues.proofs.parts.arrivals.count_free.Given as goal

abbrev pub invariant-loop-entry : goal.invariant-loop-entry
invariant-loop-entry l = l.free ≡ count l.entry-index (free l.slots)
