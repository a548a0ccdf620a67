-- `numerals::parts::last_group` meets its contract. Assumes nothing.
use native.Mathlib.Omega.{arith}
use Rattle.numerals.specs.Numeral.{got_of}
use Rattle.numerals.proofs.Groups.{product_small, last_some, last-14, last_first}
use Rattle.numerals.proofs.parts.last_group.Goals as goal
use Rattle.numerals.proofs.parts.last_group.Goals.{else-x-eq0-via-then-x-eq0+else-weight-ne1, else-x-eq0-via-else-x-eq0}

pub overflow_mul-result : goal.overflow_mul-result
overflow_mul-result c = omega (arith, product_small c.args.x c.args.weight (omega (arith, c.requires.0)) c.requires.1)

pub overflow_add-result : goal.overflow_add-result
overflow_add-result c = omega (arith, product_small c.args.x c.args.weight (omega (arith, c.requires.0)) c.requires.1, c.requires.1, c.requires.2)

pub returns-then-weight-ne1 : goal.returns-then-weight-ne1
unfolding got_of
returns-then-weight-ne1 c = last-14 c.args.value c.args.weight c.args.x c.args.next c.if-x-eq0.true c.if-weight-ne1.true

pub returns : goal.returns
unfolding got_of
returns c = elim c.else-x-eq0.branch [
  | else-x-eq0-via-then-x-eq0+else-weight-ne1 w ↦ last_first c.args.value c.args.weight c.args.x c.args.next w.if-weight-ne1.false
  | else-x-eq0-via-else-x-eq0 w ↦ last_some c.args.value c.args.weight c.args.x c.args.next w.if-x-eq0.false
]
