use mathlib.Core.Path.{◌≡◌}
use Prim.Native.Nat.{◌+◌}
use Rattle.counting.specs.Count.{count}
use Rattle.spans.specs.parts.Spans.{entry_in}
use Rattle.spans.proofs.parts.count_in.Given as goal

abbrev pub invariant-loop-k : goal.invariant-loop-k
invariant-loop-k l = l.found ≡ count l.k (λ i. entry_in l.places l.range (l.low + i))
