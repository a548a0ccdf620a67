use native.Mathlib.Omega.{arith}
use mathlib.Core.Path.{◌∙◌}
use mathlib.Core.Bool.{not}
use Prim.Native.Nat.{◌<◌}
use lib.Dec.{eqb}
use lib.ListN.{get_or}
use Rattle.counting.proofs.Tests.{bit_le}
use Rattle.owed.specs.parts.Owed.{cell}
use Rattle.tables.proofs.Targets.{aim-small, aim-racked}
use Rattle.counting.proofs.Tests.{bit-code}
use Rattle.owed.proofs.Owed.{aims, slot-cell, counted-slot}
use Rattle.owed.proofs.parts.count_slot.Goals as goal
use Rattle.owed.proofs.parts.count_slot.Goals.{After-named_slot}

-- the count of what the one rack owes the other is in the table
at : (c : After-named_slot) → cell (get_or c.args.racking.now c.args.g 0) (get_or c.args.racking.now c.named_slot.result 0) < 4096
at c = slot-cell _ _ _ _ c.named_slot.ensures _ c.requires

pub bounds-racking-named_slot : goal.bounds-racking-named_slot
bounds-racking-named_slot c = aim-small _ _ _ (aims _ _ _ _ c.named_slot.ensures _ c.requires) _ c.named_slot.ensures

pub overflow_cast-to : goal.overflow_cast-to
overflow_cast-to c = omega (arith, aim-racked _ _ _ (aims _ _ _ _ c.named_slot.ensures _ c.requires) _ c.named_slot.ensures)

pub overflow_add-k : goal.overflow_add-k
overflow_add-k c = omega (arith, at (goal.at.overflow_add-k c).After-named_slot)

pub offset_bounds-owes-k : goal.offset_bounds-owes-k
offset_bounds-owes-k c = omega (arith, at (goal.at.offset_bounds-owes-k c).After-named_slot)

pub bounds-owes-k : goal.bounds-owes-k
bounds-owes-k c = omega (arith, at (goal.at.bounds-owes-k c).After-named_slot)

pub overflow_add-owes : goal.overflow_add-owes
overflow_add-owes c = let from = get_or c.args.racking.now c.args.g 0 in
    let to = get_or c.args.racking.now c.named_slot.result 0 in
    omega (arith, c.requires.owed-fit (cell from to), bit_le _ (not (eqb from to)) (c.from.ensures ∙ bit-code _))

pub bounds-owes-k-2 : goal.bounds-owes-k-2
bounds-owes-k-2 c = omega (arith, at (goal.at.bounds-owes-k-2 c).After-named_slot)

pub returns : goal.returns
returns c = counted-slot _ _ _ _ c.named_slot.ensures _ c.requires _ (c.from.ensures ∙ bit-code _)
