use native.Mathlib.Omega.{arith}
use Rattle.texts.specs.Lines.{cards_line}
use Rattle.texts.proofs.Writing.{wrote_then}
use Rattle.texts.proofs.Lines.{length-cards_line}
use Rattle.texts.proofs.parts.lines.put_cards.Goals as goal

pub put_text-next-requires : goal.put_text-next-requires
put_text-next-requires c = omega (arith, length-cards_line c.args.s c.args.b c.args.cards.now)

pub put_slots-next-requires : goal.put_slots-next-requires
put_slots-next-requires c = (c.requires.0, omega (arith, length-cards_line c.args.s c.args.b c.args.cards.now))

pub put_byte-requires : goal.put_byte-requires
put_byte-requires c = omega (arith, length-cards_line c.args.s c.args.b c.args.cards.now)

pub returns : goal.returns
unfolding cards_line
returns c = wrote_then (wrote_then c.put_text-next.ensures c.put_slots-next.ensures) c.put_byte.ensures
