use native.Mathlib.Omega.{arith}
use mathlib.Core.Path.{◌≡◌, ap}
use Prim.Native.Nat.{◌+◌}
use lib.ListN.{length}
use Rattle.racks.specs.Job.{racks_of}
use Rattle.racks.proofs.Jobs.{sound-racks}
use Rattle.racks.proofs.Passing.{at_first, at_bounds, at_next}
use Rattle.planner.proofs.Pairs.{pairs-put-long, up-to-all, up-to-few, up-to-long, pairs-put-none, pairs-put-more, target-bounded, target_at}
use Rattle.planner.proofs.parts.write_plan.Goals as goal

pub loop-p-init : goal.loop-p-init
loop-p-init c = (at_first _, pairs-put-none _ _ _)

pub offset_bounds-job-p : goal.offset_bounds-job-p
offset_bounds-job-p c = omega (arith, (at_bounds c.requires.0 c.loop-p.invariant.0 (omega arith)).rack)

pub bounds-job-p : goal.bounds-job-p
bounds-job-p c = (at_bounds c.requires.0 c.loop-p.invariant.0 (omega arith)).rack

pub put_target-pairs-requires : goal.put_target-pairs-requires
put_target-pairs-requires c =
    let l = c.loop-p in
    let racks = racks_of c.args.job in (
      target-bounded _ c.requires.0 _ c.requires.1 _ _ l.invariant.0 (omega arith),
      omega (
        arith,
        l.invariant.1.next-is,
        ap length (target_at _ c.requires.0 _ c.requires.1 l.p l.low l.invariant.0 (omega arith)),
        up-to-long racks c.args.places.now l.p,
        up-to-few racks c.args.places.now (l.p + 1) (omega (arith, sound-racks _ c.requires.0)),
        c.requires.2,
      ),
      omega (arith, pairs-put-long l.invariant.1, c.requires.3),
    )

pub loop-p-preserved : goal.loop-p-preserved
loop-p-preserved c =
    let l = c.loop-p in
    let e = target_at _ c.requires.0 _ c.requires.1 l.p l.low l.invariant.0 (omega arith) in
    (at_next c.requires.0 l.invariant.0 (omega arith), pairs-put-more _ _ _ _ _ _ _ _ l.invariant.1 (rw e at c.put_target-pairs.ensures))

pub returns : goal.returns
returns c =
    let l = c.loop-p in
    let e : l.p ≡ length (racks_of c.args.job) = omega (arith, l.invariant.0.passed, sound-racks _ c.requires.0) in
    rw (e, up-to-all (racks_of c.args.job) c.args.places.now) at l.invariant.1
