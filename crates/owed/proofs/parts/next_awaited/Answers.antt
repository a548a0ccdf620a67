use native.Mathlib.Omega.{arith}
use borrow.Author.Count.{below_more}
use Rattle.owed.proofs.Owing.{owing-none, owing-some}
use Rattle.owed.proofs.parts.next_awaited.Goals as goal

pub loop-k-init : goal.loop-k-init
loop-k-init c = λ j l m. absurd (omega arith)

pub returns-then-awaits-k-ne0 : goal.returns-then-awaits-k-ne0
returns-then-awaits-k-ne0 c = record { up = omega arith; within = omega arith; passed = λ j l m. c.loop-k.invariant j m l; hit = λ _. owing-some _ _ c.if-awaits-k-ne0.true }

pub loop-k-preserved : goal.loop-k-preserved
loop-k-preserved c = let l = c.loop-k in below_more _ l.k l.invariant (λ _. owing-none _ _ (omega arith))

pub returns : goal.returns
returns c = let l = c.loop-k in record { up = omega arith; within = omega arith; passed = λ j i m. l.invariant j (omega arith) i; hit = λ m. absurd (omega arith) }
