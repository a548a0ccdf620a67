use Rattle.factors.proofs.Walked.{walked-cycle, walked-back}
use Rattle.factors.proofs.Chains.{back-short, onward-short}
use native.Mathlib.Omega.{arith}
use Rattle.factors.proofs.parts.walks.walk_factor.Goals as goal

pub returns-then-on : goal.returns-then-on
returns-then-on c =
    walked-cycle c.requires.0 c.args.mark c.args.k c.requires.2 c.args.seen.now _ _ _ _ c.mark_on-on.ensures c.if-on.true

pub overflow_add-result : goal.overflow_add-result
overflow_add-result c =
    omega (arith, c.mark_back-back.ensures.left_is, c.mark_on-on.ensures.left_is, back-short c.requires.0 c.args.k c.requires.2, onward-short c.requires.0 c.args.k c.requires.2, c.requires.0.small)

pub returns : goal.returns
returns c =
    walked-back c.requires.0 c.args.mark c.args.k c.requires.2 c.args.seen.now _ _ _ _ c.mark_on-on.ensures c.if-on.false _ _ _ c.mark_back-back.ensures
