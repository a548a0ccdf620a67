use native.Mathlib.Omega.{arith}
use mathlib.Core.Path.{◌≡◌}
use Rattle.queues.proofs.AllQueued.{awaiting-none, awaiting-on, awaiting-off}
use Rattle.queues.proofs.parts.arrivals.find_waiting.Goals as goal
use Rattle.queues.proofs.parts.arrivals.find_waiting.Goals.{then-line-p, else-line-p}

pub loop-p-init : goal.loop-p-init
loop-p-init c = awaiting-none _

pub loop-p-preserved : goal.loop-p-preserved
loop-p-preserved c = elim c.if-line-p.branch [
  | then-line-p w ↦ rw (w.word-is, w.turn_on-word.ensures) (awaiting-on c.loop-p.invariant w.if-line-p.true)
  | else-line-p w ↦ rw w.word-is (awaiting-off c.loop-p.invariant w.if-line-p.false)
]

pub returns : goal.returns
returns c = let l = c.loop-p in let e : l.p ≡ c.args.n = omega arith in rw e at l.invariant
