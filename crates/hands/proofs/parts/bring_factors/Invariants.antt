use Rattle.hands.proofs.Copying.{Bringing}
use Rattle.hands.proofs.parts.bring_factors.Given as goal

abbrev pub invariant-loop-k : goal.invariant-loop-k
invariant-loop-k l = Bringing l.b l.places l.k l.initial.seen l.seen l.initial.cards l.initial.hand l.cards l.hand l.initial.sum l.sum
