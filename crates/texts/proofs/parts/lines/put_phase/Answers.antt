use native.Mathlib.Omega.{arith}
use Rattle.carrying.specs.parts.Carrying.{unflat}
use Rattle.texts.specs.Lines.{phase_line}
use Rattle.texts.proofs.Writing.{wrote_then}
use Rattle.texts.proofs.Lines.{length-phase}
use Rattle.texts.proofs.parts.lines.put_phase.Goals as goal

pub put_text-next-requires : goal.put_text-next-requires
put_text-next-requires c = omega (arith, length-phase c.args.k (unflat c.args.pairs.now))

pub put_decimal-next-requires : goal.put_decimal-next-requires
put_decimal-next-requires c = omega (arith, length-phase c.args.k (unflat c.args.pairs.now))

pub put_byte-next-requires : goal.put_byte-next-requires
put_byte-next-requires c = omega (arith, length-phase c.args.k (unflat c.args.pairs.now))

pub put_arrows-next-requires : goal.put_arrows-next-requires
put_arrows-next-requires c = omega (arith, length-phase c.args.k (unflat c.args.pairs.now))

pub put_byte-requires : goal.put_byte-requires
put_byte-requires c = omega (arith, length-phase c.args.k (unflat c.args.pairs.now))

pub returns : goal.returns
unfolding phase_line
returns c =
    wrote_then (wrote_then (wrote_then (wrote_then c.put_text-next.ensures c.put_decimal-next.ensures) c.put_byte-next.ensures) c.put_arrows-next.ensures) c.put_byte.ensures
