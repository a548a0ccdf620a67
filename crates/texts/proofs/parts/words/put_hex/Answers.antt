use native.Mathlib.Omega.{arith}
use Rattle.texts.proofs.Digits.{length-hex, wrote-hex}
use Rattle.texts.proofs.parts.words.put_hex.Goals as goal

pub put_byte-next-requires : goal.put_byte-next-requires
put_byte-next-requires c = omega (arith, length-hex c.args.x)

pub put_byte-requires : goal.put_byte-requires
put_byte-requires c = omega (arith, length-hex c.args.x)

pub returns : goal.returns
returns c =
    wrote-hex c.args.x _ _ c.digit_of.ensures c.digit_of-2.ensures c.put_byte-next.ensures c.put_byte.ensures
