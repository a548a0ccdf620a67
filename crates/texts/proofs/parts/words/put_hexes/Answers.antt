use native.Mathlib.Omega.{arith}
use Rattle.texts.specs.Text.{hex}
use Rattle.texts.proofs.Writing.{left-first, item-room, item-next, items-done}
use Rattle.texts.proofs.parts.words.put_hexes.Goals as goal

pub loop-x-init : goal.loop-x-init
loop-x-init c = left-first _ _ _

pub put_hex-next-requires : goal.put_hex-next-requires
put_hex-next-requires c = item-room hex c.args.bytes.now 0 c.loop-x.x-index c.loop-x.invariant (omega arith) c.requires

pub loop-x-preserved : goal.loop-x-preserved
loop-x-preserved c = item-next hex c.args.bytes.now 0 c.loop-x.x-index c.loop-x.invariant (omega arith) c.put_hex-next.ensures

pub returns : goal.returns
returns c = items-done hex c.args.bytes.now 0 c.loop-x.x-index c.loop-x.invariant (omega arith)
