use Rattle.shuffler.specs.parts.Settled.{Zeroed}
use Rattle.shuffler.proofs.parts.zero_slots.Given as goal

abbrev pub invariant-loop-i : goal.invariant-loop-i
invariant-loop-i l = Zeroed l.b l.frees l.i l.initial.cards l.cards
