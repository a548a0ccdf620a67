use Rattle.flat.proofs.Flat.{slot-refused}
use Rattle.flat.proofs.parts.SlotAnswerFromResultSlotRefusal.from.Goals as goal

pub returns-in-Err : goal.returns-in-Err
returns-in-Err c = rw (c.in-Err.is, c.number.ensures, c.place.ensures) (slot-refused c.in-Err.refusal)
