use Rattle.factors.specs.parts.Walks.{hand_end}
use borrow.Author.Tests.{eq-eqb, ne_eqb}
use Rattle.factors.proofs.parts.walks.hand_end.Goals as goal

pub returns-then-n-eq0 : goal.returns-then-n-eq0
unfolding hand_end
returns-then-n-eq0 c = rw (eq-eqb _ _ c.if-n-eq0.true)

pub returns : goal.returns
unfolding hand_end
returns c = rw (ne_eqb _ _ c.if-n-eq0.false)
