-- `racks::parts::first_slot` meets its contract. Assumes nothing.
use Rattle.racks.proofs.Jobs.{start_first, start-next}
use Rattle.racks.proofs.parts.first_slot.Goals as goal

pub returns-then-p-eq0 : goal.returns-then-p-eq0
returns-then-p-eq0 c = start_first _ _ c.if-p-eq0.true

pub returns : goal.returns
returns c = start-next _ _ c.if-p-eq0.false
