use Rattle.racks.specs.Job.{racks_of}
use Rattle.shares.proofs.Cards.{Granting}
use Rattle.shares.proofs.parts.cards.grant_cards.Given as goal

abbrev pub invariant-loop-g : goal.invariant-loop-g
invariant-loop-g l = Granting (racks_of l.fn.job) l.places l.initial.lent l.g l.put l.nexts l.lent
