use native.Mathlib.Omega.{arith}
use Rattle.texts.specs.Lines.{arrow}
use Rattle.texts.proofs.Writing.{wrote_then}
use Rattle.texts.proofs.Arrows.{length-arrow}
use Rattle.texts.proofs.parts.arrows.put_arrow.Goals as goal

pub put_byte-first-requires : goal.put_byte-first-requires
put_byte-first-requires c = omega (arith, length-arrow c.args.from c.args.to)

pub put_slot-middle-requires : goal.put_slot-middle-requires
put_slot-middle-requires c = omega (arith, length-arrow c.args.from c.args.to)

pub put_byte-second-requires : goal.put_byte-second-requires
put_byte-second-requires c = omega (arith, length-arrow c.args.from c.args.to)

pub put_slot-requires : goal.put_slot-requires
put_slot-requires c = omega (arith, length-arrow c.args.from c.args.to)

pub returns : goal.returns
unfolding arrow
returns c =
    wrote_then (wrote_then (wrote_then c.put_byte-first.ensures c.put_slot-middle.ensures) c.put_byte-second.ensures) c.put_slot.ensures
