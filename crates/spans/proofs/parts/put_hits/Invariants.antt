use mathlib.Core.Path.{◌≡◌}
use Prim.Native.Nat.{◌-◌}
use lib.ListN.{length, take}
use Rattle.counting.specs.Count.{select_from}
use Rattle.counting.specs.Lists.{column}
use Rattle.spans.specs.parts.Spans.{entry_in}
use Rattle.spans.proofs.Spans.{Putting}
use Rattle.spans.proofs.parts.put_hits.Given as goal

abbrev pub invariant-loop-next : goal.invariant-loop-next
invariant-loop-next l =
    (length l.lent ≡ length l.initial.lent)
    × Putting (entry_in l.places l.range) (length l.places) l.side (column l.side l.initial.lent l.k (take (l.stop - l.k) (select_from l.low (length l.places - l.low) (entry_in l.places l.range)))) l.stop l.lent l.g l.next

abbrev pub decreases-loop-next : goal.decreases-loop-next
decreases-loop-next l = length l.places - l.g
