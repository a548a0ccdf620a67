use mathlib.Core.Path.{sym}
use native.Mathlib.Omega.{arith}
use lib.Seq.{length-take-le}
use Rattle.hands.proofs.ByteLoops.{put_is}
use Rattle.hands.proofs.parts.lay_card.Goals as goal

pub slice_bounds-put-end : goal.slice_bounds-put-end
slice_bounds-put-end c = sym (length-take-le c.args.b c.args.hand.now (omega arith))

pub put-requires : goal.put-requires
put-requires c = omega (arith, length-take-le c.args.b c.args.hand.now (omega arith))

pub returns : goal.returns
returns c = put_is _ _ _ _ _ c.put.ensures
