-- `parsing::parts::entry_of` meets its contract. Assumes nothing.
use borrow.Author.Tests.{eq-eqb, ne_eqb}
use Rattle.parsing.specs.File.{entry_of}
use Rattle.parsing.proofs.parts.entry_of.Goals as goal

pub returns-then-x-eq0 : goal.returns-then-x-eq0
unfolding entry_of
returns-then-x-eq0 c = rw (eq-eqb _ 0 c.if-x-eq0.true)

pub returns : goal.returns
unfolding entry_of
returns c = rw (ne_eqb _ 0 c.if-x-eq0.false)
