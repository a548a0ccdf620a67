use native.Mathlib.Omega.{arith}
use mathlib.Core.Path.{◌≡◌, sym, ◌∙◌}
use lib.ListN.{length}
use Rattle.racks.specs.Table.{free}
use Rattle.racks.proofs.Table.{read-dest}
use Rattle.counting.specs.Tests.{bit}
use Rattle.counting.proofs.Tests.{bit_le}
use Rattle.counting.proofs.Count.{count_none, count_le, count-more}
use Rattle.counting.proofs.Tests.{bit-code}
use Rattle.queues.proofs.parts.arrivals.count_free.Goals as goal
use Rattle.queues.proofs.parts.arrivals.count_free.Goals.{After-from-free}

-- what is added: whether the slot is free
adds : (c : After-from-free) → c.from-free.result ≡ bit (free c.args.slots.now c.loop-entry.entry-index)
unfolding free
adds c = rw (read-dest c.args.slots.now c.loop-entry.entry-index (omega arith)) at (c.from-free.ensures ∙ bit-code _)

pub loop-entry-init : goal.loop-entry-init
loop-entry-init c = sym (count_none _)

pub overflow_add-free : goal.overflow_add-free
overflow_add-free c =
    omega (arith, bit_le _ _ (adds c), count_le c.loop-entry.entry-index (free c.args.slots.now))

pub loop-entry-preserved : goal.loop-entry-preserved
loop-entry-preserved c = omega (arith, adds c, count-more c.loop-entry.entry-index (free c.args.slots.now))

pub returns : goal.returns
returns c = let e : c.loop-entry.entry-index ≡ length c.args.slots.now = omega arith in rw e at c.loop-entry.invariant
