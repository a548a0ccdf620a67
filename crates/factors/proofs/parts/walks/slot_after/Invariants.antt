use Rattle.factors.proofs.Stretches.{Stepping}
use Rattle.factors.proofs.parts.walks.slot_after.Given as goal

abbrev pub invariant-loop-k : goal.invariant-loop-k
invariant-loop-k l = Stepping l.places.now l.n l.x l._k l.y
