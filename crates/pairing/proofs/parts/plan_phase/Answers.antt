use native.Mathlib.Omega.{arith}
use Prim.Native.Nat.{◌+◌, ◌*◌, ◌^◌, ◌≤◌, ◌<◌}
use lib.Dec.{ltb}
use lib.ListN.{length}
use borrow.Author.Tests.{le-ltb, lt-ltb}
use mathlib.Core.Path.{◌≡◌}
use Rattle.counting.specs.Tests.{pick}
use Rattle.bits.specs.parts.Bits.{turned_off}
use Rattle.queues.specs.parts.Line.{head_of, tail_of}
use Rattle.queues.specs.parts.Queues.{rows_of}
use Rattle.pairing.specs.parts.Phase.{sent}
use Rattle.pairing.proofs.Planning.{reached-first, planned-long, planned-all, next-visitable, next_fits, next-count, reached-up, reached-more}
use Rattle.pairing.proofs.parts.plan_phase.Goals as goal
use Rattle.pairing.proofs.parts.plan_phase.Goals.{In-loop-p, then-line-p, else-line-p}

-- the next rack's pairs fit the log, whose length is a number of 64 bits
room : (c : In-loop-p) →
    let l = c.loop-p in
    (c.args.at + 2 * l.count + 2 * sent (rows_of c.args.ends.now l.line c.args.bits.now) l.p ≤ length l.log) × (length l.log < 2 ^ 64)
room c =
    let l = c.loop-p in
    (next_fits c.requires l.invariant.1 (omega arith), omega (arith, planned-long c.requires l.invariant.1))

pub loop-p-init : goal.loop-p-init
loop-p-init c = (c.requires.bounded.topped.small 65, reached-first c.requires c.next_on-p.ensures)

pub overflow_mul-count : goal.overflow_mul-count
overflow_mul-count c = omega (arith, room (goal.at.overflow_mul-count c).In-loop-p)

pub overflow_add-at : goal.overflow_add-at
overflow_add-at c = omega (arith, room (goal.at.overflow_add-at c).In-loop-p)

pub visit-made-requires : goal.visit-made-requires
visit-made-requires c = let l = c.loop-p in
    (l.invariant.1.planned.long, omega arith, c.requires.bounded.topped, next-visitable c.requires l.invariant.1 (omega arith), next_fits c.requires l.invariant.1 (omega arith))

pub overflow_add-count : goal.overflow_add-count
overflow_add-count c = let l = c.loop-p in
    omega (arith, next-count c.requires l.invariant.1 (omega arith) c.visit-made.ensures, planned-long c.requires l.invariant.1)

pub loop-p-smaller : goal.loop-p-smaller
loop-p-smaller c = let l = c.loop-p in
    omega (arith, reached-up c.requires l.invariant.1 (omega arith) c.turn_off-left.ensures c.next_on-p-in-loop-p.ensures)

pub loop-p-preserved : goal.loop-p-preserved
loop-p-preserved c =
    let l = c.loop-p in
    let line = c.visit-made.new.line in
    let kept : c.if-line-p.waiting ≡ pick (ltb (head_of line l.p) (tail_of line l.p)) l.waiting (turned_off l.waiting l.p) = elim c.if-line-p.branch [
      | then-line-p w ↦ rw (w.waiting-is, le-ltb _ _ w.if-line-p.true) w.turn_off-waiting.ensures
      | else-line-p w ↦ rw (w.waiting-is, lt-ltb _ _ w.if-line-p.false)
    ] in
    let small : c.if-line-p.waiting < 2 ^ 64 = elim c.if-line-p.branch [ then-line-p w ↦ omega (arith, w.waiting-is) | else-line-p w ↦ omega (arith, w.waiting-is) ] in
    (small, reached-more c.requires l.invariant.1 (omega arith) c.visit-made.ensures kept c.turn_off-left.ensures c.next_on-p-in-loop-p.ensures)

pub returns : goal.returns
returns c = planned-all c.requires c.loop-p.invariant.1 (omega arith) c.loop-p.invariant.0
