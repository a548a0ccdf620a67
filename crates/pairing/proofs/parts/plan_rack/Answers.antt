use native.Mathlib.Omega.{arith}
use Prim.Native.Nat.{◌+◌, ◌≤◌, ◌<◌}
use lib.ListN.{length, length-set}
use Rattle.queues.proofs.Line.{queue_long, queue-get}
use Rattle.pairing.proofs.Pairing.{paired-all, paired-done, paired-onward, paired-bit, paired-slot, paired-room, paired-more}
use Rattle.pairing.proofs.parts.plan_rack.Goals as goal
use Rattle.pairing.proofs.parts.plan_rack.Goals.{After-next_on-b}

-- the walk has found a slot, and one pair more fits the log
found : (c : After-next_on-b) →
    let l = c.loop-h in
    (c.next_on-b.result < 64) × (c.walk_on-walk.result.at + c.next_on-b.result < 4096) × (l.k + 2 ≤ length l.log)
found c =
    let l = c.loop-h in
    let w = c.walk_on-walk.ensures in
    let o = c.next_on-b.ensures in (
      paired-bit l.invariant (omega arith) w (omega arith) o,
      paired-slot l.invariant (omega arith) w (omega arith) o,
      paired-room l.invariant (omega arith) w (omega arith) o c.requires.end_bound.1,
    )

pub walk_from-rest-requires : goal.walk_from-rest-requires
walk_from-rest-requires c = (c.requires.head_le_end.3, c.requires.head_le_end.4)

pub loop-h-init : goal.loop-h-init
loop-h-init c = paired-all c.requires.head_le_end.0 c.requires.head_le_end.3 c.requires.end_bound.0 c.walk_from-rest.ensures

pub walk_on-walk-requires : goal.walk_on-walk-requires
walk_on-walk-requires c = let i = c.loop-h.invariant in (i.walking.few, paired-onward i (omega arith), c.requires.head_le_end.4)

pub offset_bounds-log-k : goal.offset_bounds-log-k
offset_bounds-log-k c = omega (arith, found (goal.at.offset_bounds-log-k c).After-next_on-b)

pub bounds-log-k : goal.bounds-log-k
bounds-log-k c = omega (arith, found (goal.at.bounds-log-k c).After-next_on-b)

pub overflow_add-log : goal.overflow_add-log
overflow_add-log c = omega (arith, found (goal.at.overflow_add-log c).After-next_on-b)

pub overflow_cast-log : goal.overflow_cast-log
overflow_cast-log c = omega (arith, found (goal.at.overflow_cast-log c).After-next_on-b)

pub overflow_add-log-in-loop-h : goal.overflow_add-log-in-loop-h
overflow_add-log-in-loop-h c = omega (arith, found (goal.at.overflow_add-log-in-loop-h c).After-next_on-b)

pub offset_bounds-log-k-in-loop-h : goal.offset_bounds-log-k-in-loop-h
offset_bounds-log-k-in-loop-h c = omega (arith, found (goal.at.offset_bounds-log-k-in-loop-h c).After-next_on-b)

pub bounds-log-k-in-loop-h : goal.bounds-log-k-in-loop-h
bounds-log-k-in-loop-h c = simp length-set (omega (arith, found (goal.at.bounds-log-k-in-loop-h c).After-next_on-b))

pub overflow_add-k : goal.overflow_add-k
overflow_add-k c = omega (arith, found (goal.at.overflow_add-k c).After-next_on-b)

pub turn_off-rest-requires : goal.turn_off-rest-requires
turn_off-rest-requires c = omega (arith, found (goal.at.turn_off-rest-requires c).After-next_on-b)

pub loop-h-preserved : goal.loop-h-preserved
loop-h-preserved c = let l = c.loop-h in
    paired-more l.invariant (omega arith) c.walk_on-walk.ensures (omega arith) c.next_on-b.ensures (omega (arith, queue_long c.args.line.now c.requires.head_le_end.2)) (queue-get c.args.line.now l.h (omega arith)) c.turn_off-rest.ensures

pub returns : goal.returns
returns c = paired-done c.loop-h.invariant (omega arith)
