use Rattle.factors.proofs.Walking.{Marking}
use Rattle.factors.proofs.parts.walks.mark_along.Given as goal

abbrev pub invariant-loop-n : goal.invariant-loop-n
invariant-loop-n l = Marking l.table l.mark l.h l.n l.x l.initial.seen l.seen
