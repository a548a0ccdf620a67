use borrow.Author.Tests.{eq-eqb, ne_eqb}
use Rattle.racks.specs.Limits.{FREE}
use Rattle.tables.specs.parts.Tables.{named_slot}
use Rattle.tables.proofs.parts.named_slot.Goals as goal

pub returns-then-x-eq-FREE : goal.returns-then-x-eq-FREE
unfolding named_slot
returns-then-x-eq-FREE c = rw (eq-eqb _ FREE c.if-x-eq-FREE.true)

pub returns : goal.returns
unfolding named_slot
returns c = rw (ne_eqb _ FREE c.if-x-eq-FREE.false)
