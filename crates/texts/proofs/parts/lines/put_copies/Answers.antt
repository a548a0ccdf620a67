use native.Mathlib.Omega.{arith}
use Rattle.carrying.specs.parts.Carrying.{unflat}
use Rattle.texts.specs.Lines.{copies_line}
use Rattle.texts.proofs.Writing.{wrote_then}
use Rattle.texts.proofs.Lines.{length-copies}
use Rattle.texts.proofs.parts.lines.put_copies.Goals as goal

pub put_text-next-requires : goal.put_text-next-requires
put_text-next-requires c = omega (arith, length-copies (unflat c.args.list.now))

pub put_arrows-next-requires : goal.put_arrows-next-requires
put_arrows-next-requires c = omega (arith, length-copies (unflat c.args.list.now))

pub put_byte-requires : goal.put_byte-requires
put_byte-requires c = omega (arith, length-copies (unflat c.args.list.now))

pub returns : goal.returns
unfolding copies_line
returns c = wrote_then (wrote_then c.put_text-next.ensures c.put_arrows-next.ensures) c.put_byte.ensures
