use native.Mathlib.Omega.{arith}
use Rattle.texts.specs.Lines.{card_text}
use Rattle.texts.proofs.Writing.{wrote_then}
use Rattle.moves.proofs.Blocks.{block-part}
use Rattle.texts.proofs.parts.lines.put_card.Goals as goal

pub put_byte-next-requires : goal.put_byte-next-requires
unfolding card_text
put_byte-next-requires c = omega arith

pub put_hexes-requires : goal.put_hexes-requires
unfolding card_text
put_hexes-requires c = rw (block-part c.args.b c.args.g c.args.cards.now) (omega arith)

pub returns : goal.returns
unfolding card_text
returns c = wrote_then c.put_byte-next.ensures (rw (block-part c.args.b c.args.g c.args.cards.now) at c.put_hexes.ensures)
