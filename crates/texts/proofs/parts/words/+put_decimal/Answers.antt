use Rattle.std.proofs.Common.{length, ap, arith}
use Rattle.texts.proofs.Writing.{wrote-length}
use Rattle.texts.proofs.Digits.{decimal-low, decimal_longer, wrote-low, wrote-more}
use Rattle.texts.proofs.parts.words.+put_decimal.Goals as goal

pub put_byte-requires : goal.put_byte-requires
put_byte-requires t c = omega (arith, ap length (decimal-low c.args.x (omega arith)))

pub returns-then-x-lt10 : goal.returns-then-x-lt10
returns-then-x-lt10 t c = wrote-low c.args.x _ (omega arith) c.digit_of.ensures c.put_byte.ensures

pub put_decimal-next-requires : goal.put_decimal-next-requires
put_decimal-next-requires t c = (omega arith, omega (arith, decimal_longer c.args.x (omega arith)))

pub put_byte-requires-2 : goal.put_byte-requires-2
put_byte-requires-2 t c =
    let w = c.put_decimal-next.ensures in omega (arith, decimal_longer c.args.x (omega arith), wrote-length w, w.behind)

pub returns : goal.returns
returns t c = wrote-more c.args.x _ (omega arith) c.digit_of-2.ensures c.put_decimal-next.ensures c.put_byte-2.ensures
