use native.Mathlib.Omega.{arith}
use mathlib.Core.Path.{◌∙◌}
use mathlib.Core.Bool.{not}
use Prim.Native.Nat.{◌<◌}
use lib.Dec.{eqb}
use lib.ListN.{get_or}
use Rattle.counting.proofs.Tests.{bit_le}
use Rattle.queues.specs.parts.Line.{tail_of}
use Rattle.tables.proofs.Targets.{aim-small, aim-racked}
use Rattle.counting.proofs.Tests.{bit-code}
use Rattle.queues.proofs.QueueSlot.{aims, slot-fits, queued-slot}
use Rattle.queues.proofs.parts.arrivals.queue_slot.Goals as goal
use Rattle.queues.proofs.parts.arrivals.queue_slot.Goals.{After-named_slot}

-- the card's rack has a queue
racked : (c : After-named_slot) → get_or c.args.racking.now c.named_slot.result 0 < 64
racked c = aim-racked _ _ _ (aims _ _ _ _ c.named_slot.ensures _ c.requires) _ c.named_slot.ensures

-- and the queue has room
fits : (c : After-named_slot) → tail_of c.args.line.now (get_or c.args.racking.now c.named_slot.result 0) < 4160
fits c = slot-fits _ _ _ _ c.named_slot.ensures _ c.requires

pub bounds-racking-named_slot : goal.bounds-racking-named_slot
bounds-racking-named_slot c = aim-small _ _ _ (aims _ _ _ _ c.named_slot.ensures _ c.requires) _ c.named_slot.ensures

pub overflow_cast-there : goal.overflow_cast-there
overflow_cast-there c = omega (arith, racked (goal.at.overflow_cast-there c).After-named_slot)

pub overflow_add-tail : goal.overflow_add-tail
overflow_add-tail c = omega (arith, racked (goal.at.overflow_add-tail c).After-named_slot)

pub offset_bounds-line-there : goal.offset_bounds-line-there
offset_bounds-line-there c = omega (arith, racked (goal.at.offset_bounds-line-there c).After-named_slot)

pub bounds-line-there : goal.bounds-line-there
bounds-line-there c = omega (arith, racked (goal.at.bounds-line-there c).After-named_slot)

pub overflow_cast-line-2 : goal.overflow_cast-line-2
overflow_cast-line-2 c = omega (arith, fits (goal.at.overflow_cast-line-2 c).After-named_slot)

pub offset_bounds-line-tail : goal.offset_bounds-line-tail
offset_bounds-line-tail c = omega (arith, fits (goal.at.offset_bounds-line-tail c).After-named_slot)

pub bounds-line-tail : goal.bounds-line-tail
bounds-line-tail c = omega (arith, fits (goal.at.bounds-line-tail c).After-named_slot)

pub overflow_add-line : goal.overflow_add-line
overflow_add-line c = let n = c.named_slot.result in
    omega (arith, fits (goal.at.overflow_add-line c).After-named_slot, bit_le _ (not (eqb (get_or c.args.racking.now c.args.g 0) (get_or c.args.racking.now n 0))) (c.from.ensures ∙ bit-code _))

pub overflow_add-line-2 : goal.overflow_add-line-2
overflow_add-line-2 c = omega (arith, racked (goal.at.overflow_add-line-2 c).After-named_slot)

pub offset_bounds-line-there-2 : goal.offset_bounds-line-there-2
offset_bounds-line-there-2 c = omega (arith, racked (goal.at.offset_bounds-line-there-2 c).After-named_slot)

pub bounds-line-there-2 : goal.bounds-line-there-2
bounds-line-there-2 c = omega (arith, racked (goal.at.bounds-line-there-2 c).After-named_slot)

pub returns : goal.returns
returns c = queued-slot _ _ _ _ c.named_slot.ensures _ c.requires _ (c.from.ensures ∙ bit-code _)
