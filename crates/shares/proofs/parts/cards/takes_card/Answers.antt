use borrow.Author.Tests.{eq-eqb, ne_eqb}
use Rattle.counting.specs.Tests.{◌and◌}
use Rattle.shares.proofs.parts.cards.takes_card.Goals as goal

pub returns-then-from-to : goal.returns-then-from-to
unfolding ◌and◌
returns-then-from-to c = rw (eq-eqb _ _ c.if-from-to.true)

pub returns : goal.returns
unfolding ◌and◌
returns c = rw (ne_eqb _ _ c.if-from-to.false)
