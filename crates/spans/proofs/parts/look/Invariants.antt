use mathlib.Core.Path.{◌≡◌}
use Prim.Native.Nat.{◌+◌}
use Rattle.counting.specs.Count.{count}
use Rattle.spans.specs.parts.Spans.{entry_in}
use Rattle.spans.proofs.Spans.{lowest_of}
use Rattle.spans.proofs.parts.look.Given as goal

abbrev pub invariant-loop-j : goal.invariant-loop-j
invariant-loop-j l =
    (l.count ≡ count l.j (λ i. entry_in l.places l.range (l.low + i))) × (l.lowest ≡ lowest_of l.n (λ i. entry_in l.places l.range (l.low + i)) l.j)
