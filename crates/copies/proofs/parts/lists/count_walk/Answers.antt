use Rattle.factors.specs.parts.Walks.{walk_count}
use borrow.Author.Tests.{eq-eqb, ne_eqb}
use Rattle.copies.proofs.parts.lists.count_walk.Goals as goal

pub returns-then-end-eq-FREE : goal.returns-then-end-eq-FREE
unfolding walk_count
returns-then-end-eq-FREE c = rw (eq-eqb _ _ c.if-end-eq-FREE.true)

pub returns : goal.returns
unfolding walk_count
returns c = rw (ne_eqb _ _ c.if-end-eq-FREE.false)
