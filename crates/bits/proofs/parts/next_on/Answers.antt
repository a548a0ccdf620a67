use native.Mathlib.Omega.{arith}
use Rattle.bits.proofs.Nexts.{next-end, zeros-fit, place-fits, next-off, next-left}
use Rattle.bits.proofs.parts.next_on.Goals as goal

pub returns-then-s-eq64 : goal.returns-then-s-eq64
returns-then-s-eq64 c = next-end _ _ _ (omega arith)

pub returns-then-rest-eq0 : goal.returns-then-rest-eq0
returns-then-rest-eq0 c = next-off c.args.word c.args.s c.requires c.if-rest-eq0.true

pub overflow_cast-result : goal.overflow_cast-result
overflow_cast-result c = record { fits = zeros-fit _ }

pub overflow_add-result : goal.overflow_add-result
overflow_add-result c = record { fits = place-fits _ _ (omega arith) }

pub returns : goal.returns
returns c = next-left c.args.word c.args.s (omega arith) c.if-rest-eq0.false
