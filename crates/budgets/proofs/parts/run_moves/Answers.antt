use native.Mathlib.Omega.{arith}
use mathlib.Core.Path.{refl}
use Rattle.budgets.proofs.Turns.{going-fixed, turn-first, turn-waits, turn_runnable, turn_more, turn-next, turn_spent, turn_idle, moves-only}
use Rattle.budgets.proofs.parts.run_moves.Goals as goal

pub loop-tally-init : goal.loop-tally-init
loop-tally-init c = (rw c.none-tally.ensures (record { phases-none = refl; copies-none = refl }), rw c.none-tally.ensures (turn-first c.requires _))

pub run_phase-tally-requires : goal.run_phase-tally-requires
run_phase-tally-requires c = turn_runnable c.loop-tally.invariant.1 (going-fixed c.requires) (omega arith)

pub loop-tally-smaller : goal.loop-tally-smaller
loop-tally-smaller c = let i = c.loop-tally.invariant in
    let l = c.loop-tally-test.true in
    omega (arith, l, turn_more i.1 (going-fixed c.requires) l c.run_phase-tally.ensures (turn-waits i.1 l c.if-bits-ne0.true))

pub loop-tally-preserved : goal.loop-tally-preserved
loop-tally-preserved c = let i = c.loop-tally.invariant in
    let l = c.loop-tally-test.true in
    let r = c.run_phase-tally.ensures in
    (moves-only i.1 (going-fixed c.requires) l r i.0, turn-next i.1 (going-fixed c.requires) l r (turn-waits i.1 l c.if-bits-ne0.true))

pub returns-else-bits-ne0 : goal.returns-else-bits-ne0
returns-else-bits-ne0 c = let i = c.loop-tally.invariant in turn_idle i.1 i.0 (omega arith) (omega arith)

pub returns-after-loop-tally : goal.returns-after-loop-tally
returns-after-loop-tally c = let i = c.loop-tally.invariant in turn_spent i.1 i.0 (omega arith)
