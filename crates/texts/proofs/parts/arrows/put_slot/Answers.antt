use mathlib.Core.Path.{ap}
use native.Mathlib.Omega.{arith}
use lib.ListN.{length}
use Rattle.texts.proofs.Arrows.{slot-hand, slot-other}
use Rattle.texts.proofs.parts.arrows.put_slot.Goals as goal

pub put_byte-requires : goal.put_byte-requires
put_byte-requires c =
    omega (arith, ap length (slot-hand c.args.x (omega arith)))

pub returns-then-x-eq-HAND : goal.returns-then-x-eq-HAND
returns-then-x-eq-HAND c = rw (slot-hand c.args.x (omega arith)) c.put_byte.ensures

pub put_decimal-requires : goal.put_decimal-requires
put_decimal-requires c =
    omega (arith, ap length (slot-other c.args.x (λ e. omega arith)))

pub returns : goal.returns
returns c = rw (slot-other c.args.x (λ e. omega arith)) c.put_decimal.ensures
