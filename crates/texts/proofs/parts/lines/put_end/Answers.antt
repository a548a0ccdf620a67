use native.Mathlib.Omega.{arith}
use Rattle.texts.specs.Lines.{end_line}
use Rattle.texts.proofs.Writing.{wrote_then}
use Rattle.texts.proofs.Lines.{length-end}
use Rattle.texts.proofs.parts.lines.put_end.Goals as goal

pub put_text-next-requires : goal.put_text-next-requires
put_text-next-requires c = omega (arith, length-end c.args.tally)

pub put_decimal-next-requires : goal.put_decimal-next-requires
put_decimal-next-requires c = omega (arith, length-end c.args.tally)

pub put_text-next-requires-2 : goal.put_text-next-requires-2
put_text-next-requires-2 c = omega (arith, length-end c.args.tally)

pub put_decimal-next-requires-2 : goal.put_decimal-next-requires-2
put_decimal-next-requires-2 c = omega (arith, length-end c.args.tally)

pub put_text-next-requires-3 : goal.put_text-next-requires-3
put_text-next-requires-3 c = omega (arith, length-end c.args.tally)

pub put_decimal-next-requires-3 : goal.put_decimal-next-requires-3
put_decimal-next-requires-3 c = omega (arith, length-end c.args.tally)

pub put_byte-requires : goal.put_byte-requires
put_byte-requires c = omega (arith, length-end c.args.tally)

pub returns : goal.returns
unfolding end_line
returns c =
    let phases = wrote_then c.put_text-next.ensures c.put_decimal-next.ensures in
    let moves = wrote_then (wrote_then phases c.put_text-next-2.ensures) c.put_decimal-next-2.ensures in
    let copies = wrote_then (wrote_then moves c.put_text-next-3.ensures) c.put_decimal-next-3.ensures in
    wrote_then copies c.put_byte.ensures
