use Rattle.racks.proofs.Jobs.{sound-racks, sound-count}
use native.Mathlib.Omega.{arith}
use mathlib.Core.Path.{ap}
use Prim.Native.Nat.{◌*◌, ◌≤◌}
use Rattle.gathering.proofs.Gathers.{sofar-first, sofar_runnable, sofar_closable, sofar-more, sofar-next, sofar-done}
use Rattle.gathering.proofs.parts.rounds.run_phases.Goals as goal
use Rattle.gathering.proofs.parts.rounds.run_phases.Goals.{Start}

-- the racks' cells are cells of the table
few : (c : Start) → c.args.job.racks * 64 ≤ 4096
few c = omega (arith, sound-count _ c.requires.going.opened.sound)

pub overflow_mul-cells : goal.overflow_mul-cells
overflow_mul-cells c = omega (arith, few (goal.at.overflow_mul-cells c).Start)

pub next_awaited-cell-requires : goal.next_awaited-cell-requires
next_awaited-cell-requires c = (omega arith, few (goal.at.next_awaited-cell-requires c).Start)

pub loop-cell-init : goal.loop-cell-init
loop-cell-init c = rw c.none-tally.ensures (sofar-first c.requires c.next_awaited-cell.ensures)

pub run_phase-made-requires : goal.run_phase-made-requires
run_phase-made-requires c = sofar_runnable c.loop-cell.invariant (omega arith) (few (goal.at.run_phase-made-requires c).Start)

pub close_round-tally-requires : goal.close_round-tally-requires
close_round-tally-requires c = sofar_closable c.loop-cell.invariant c.loop-cell-test.true (few (goal.at.close_round-tally-requires c).Start) c.run_phase-made.ensures

pub next_awaited-cell-requires-in-loop-cell : goal.next_awaited-cell-requires-in-loop-cell
next_awaited-cell-requires-in-loop-cell c = (c.loop-cell.invariant.few, few (goal.at.next_awaited-cell-requires-in-loop-cell c).Start)

pub loop-cell-smaller : goal.loop-cell-smaller
loop-cell-smaller c =
    let m = sofar-more c.loop-cell.invariant c.loop-cell-test.true (few (goal.at.loop-cell-smaller c).Start) c.run_phase-made.ensures c.close_round-tally.ensures in
    omega (arith, m.0, m.1)

pub loop-cell-preserved : goal.loop-cell-preserved
loop-cell-preserved c =
    sofar-next c.loop-cell.invariant c.loop-cell-test.true (few (goal.at.loop-cell-preserved c).Start) c.run_phase-made.ensures c.close_round-tally.ensures c.next_awaited-cell-in-loop-cell.ensures

pub returns : goal.returns
returns c = sofar-done c.loop-cell.invariant (ap (λ n. n * 64) (sound-racks _ c.requires.going.opened.sound)) (omega arith)
