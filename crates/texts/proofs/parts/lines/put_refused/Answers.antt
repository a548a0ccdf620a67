use native.Mathlib.Omega.{arith}
use Rattle.texts.specs.Lines.{refused_line}
use Rattle.texts.proofs.Writing.{wrote_then}
use Rattle.texts.proofs.Lines.{length-refused}
use Rattle.texts.proofs.parts.lines.put_refused.Goals as goal

pub put_text-next-requires : goal.put_text-next-requires
put_text-next-requires c = omega (arith, length-refused c.args.number)

pub put_decimal-next-requires : goal.put_decimal-next-requires
put_decimal-next-requires c = omega (arith, length-refused c.args.number)

pub put_byte-requires : goal.put_byte-requires
put_byte-requires c = omega (arith, length-refused c.args.number)

pub returns : goal.returns
unfolding refused_line
returns c = wrote_then (wrote_then c.put_text-next.ensures c.put_decimal-next.ensures) c.put_byte.ensures
