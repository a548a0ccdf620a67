use native.Mathlib.Omega.{arith}
use mathlib.Core.Path.{◌≡◌, ◌∙◌}
use Prim.Native.Nat.{◌*◌, ◌≤◌, ◌<◌}
use Rattle.counting.specs.Tests.{pick}
use lib.ListN.{length, get_or}
use Rattle.counting.proofs.Tests.{bit_le, bit-code}
use Rattle.tables.proofs.Targets.{aim-small, aim-racked}
use Rattle.shares.proofs.GrantCard.{next_small, grant-at, card-granted}
use Rattle.shares.proofs.parts.cards.grant_card.Goals as goal
use Rattle.shares.proofs.parts.cards.grant_card.Goals.{Joined-taken, then-taken, else-taken, then-taken-2, else-taken-2, After-named_slot}

-- the target is a rack
racked : (c : After-named_slot) → get_or c.args.racking.now c.named_slot.result 0 < 64
racked c = aim-racked _ _ _ c.requires.aims _ c.named_slot.ensures

-- and its next pair can be doubled in 16 bits
few : (c : After-named_slot) → get_or c.args.nexts.now (get_or c.args.racking.now c.named_slot.result 0) 0 ≤ 4096
few c = next_small _ _ _ _ _ _ c.requires _ c.named_slot.ensures

pub bounds-racking-named_slot : goal.bounds-racking-named_slot
bounds-racking-named_slot c = omega (arith, aim-small _ _ _ c.requires.aims _ c.named_slot.ensures, c.requires.wide)

pub overflow_cast-next : goal.overflow_cast-next
overflow_cast-next c = omega (arith, racked (goal.at.overflow_cast-next c).After-named_slot)

pub offset_bounds-nexts-to : goal.offset_bounds-nexts-to
offset_bounds-nexts-to c = omega (arith, racked (goal.at.offset_bounds-nexts-to c).After-named_slot)

pub bounds-nexts-to : goal.bounds-nexts-to
bounds-nexts-to c = racked (goal.at.bounds-nexts-to c).After-named_slot

pub overflow_cast-to : goal.overflow_cast-to
overflow_cast-to c = omega (arith, racked (goal.at.overflow_cast-to c).After-named_slot)

pub offset_bounds-stops-to : goal.offset_bounds-stops-to
offset_bounds-stops-to c = omega (arith, racked (goal.at.offset_bounds-stops-to c).After-named_slot)

pub bounds-stops-to : goal.bounds-stops-to
bounds-stops-to c = racked (goal.at.bounds-stops-to c).After-named_slot

pub overflow_mul-at : goal.overflow_mul-at
overflow_mul-at c = omega (arith, few (goal.at.overflow_mul-at c).After-named_slot)

-- where the store goes
at_is : (c : Joined-taken) → c.if-taken.at ≡ pick c.takes_card-taken.result (2 * get_or c.args.nexts.now (get_or c.args.racking.now c.named_slot.result 0) 0) 0
at_is c = elim c.if-taken.branch [
  | then-taken w ↦ rw w.if-taken.true w.at-is
  | else-taken w ↦ rw w.if-taken.false w.at-is
]

at_in : (c : Joined-taken) → c.if-taken.at < length c.args.lent.now
at_in c = grant-at _ _ _ _ _ _ c.requires _ c.named_slot.ensures _ c.takes_card-taken.ensures _ (at_is c)

pub bounds-lent-at : goal.bounds-lent-at
bounds-lent-at c = at_in (goal.at.bounds-lent-at c).Joined-taken

pub bounds-lent-at-2 : goal.bounds-lent-at-2
bounds-lent-at-2 c = at_in (goal.at.bounds-lent-at-2 c).Joined-taken

pub overflow_add-nexts : goal.overflow_add-nexts
overflow_add-nexts c = omega (arith, few (goal.at.overflow_add-nexts c).After-named_slot, bit_le _ c.takes_card-taken.result (c.from-one.ensures ∙ bit-code _))

pub overflow_cast-nexts : goal.overflow_cast-nexts
overflow_cast-nexts c = omega (arith, racked (goal.at.overflow_cast-nexts c).After-named_slot)

pub offset_bounds-nexts-to-2 : goal.offset_bounds-nexts-to-2
offset_bounds-nexts-to-2 c = omega (arith, racked (goal.at.offset_bounds-nexts-to-2 c).After-named_slot)

pub bounds-nexts-to-2 : goal.bounds-nexts-to-2
bounds-nexts-to-2 c = racked (goal.at.bounds-nexts-to-2 c).After-named_slot

pub returns : goal.returns
returns c =
    let e : c.if-taken-2.lent ≡ pick c.takes_card-taken.result c.args.g (get_or c.args.lent.now c.if-taken.at 0) = elim c.if-taken-2.branch [
      | then-taken-2 w ↦ rw w.if-taken-2.true w.lent-is
      | else-taken-2 w ↦ rw w.if-taken-2.false w.lent-is
    ] in
    card-granted _ _ _ _ _ _ c.requires _ c.named_slot.ensures _ c.takes_card-taken.ensures _ (at_is (goal.at.returns c).Joined-taken) _ _ e (c.from-one.ensures ∙ bit-code _)
