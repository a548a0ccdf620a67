use Prim.Native.Nat.{◌-◌}
use Rattle.spans.specs.parts.Spans.{entry_in}
use Rattle.spans.proofs.Spans.{Spanned}
use Rattle.spans.proofs.parts.put_span.Given as goal

abbrev pub invariant-loop-g : goal.invariant-loop-g
invariant-loop-g l = Spanned (entry_in l.places l.range) l.low l.high l.k l.stop l.initial.lent l.lent l.g l.next

abbrev pub decreases-loop-g : goal.decreases-loop-g
decreases-loop-g l = l.high - l.g
