use native.Mathlib.Omega.{arith}
use mathlib.Core.Path.{◌≡◌}
use Prim.Native.Nat.{◌≤◌, ◌<◌}
use lib.ListN.{length, get_or}
use Rattle.racks.specs.Job.{racks_of}
use Rattle.racks.proofs.Jobs.{sound-racks}
use Rattle.racks.proofs.Passing.{at_first, at_bounds, at_next}
use Rattle.plans.specs.Plan.{plan}
use Rattle.plans.proofs.Plans.{plan-few}
use Rattle.spans.proofs.Found.{free-fits}
use Rattle.shares.proofs.Shares.{stop-few}
use Rattle.shares.proofs.Openings.{marked, openings-none, openings-long, stop-up, open-enough, openings-more}
use Rattle.shares.proofs.parts.openings.put_openings.Goals as goal
use Rattle.shares.proofs.parts.openings.put_openings.Goals.{In-loop-p}

pub loop-p-init : goal.loop-p-init
loop-p-init c = (at_first _, openings-none _ _ _)

-- there is one more rack
rack : (c : In-loop-p) → c.loop-p.p < 64
rack c = (at_bounds c.requires.0 c.loop-p.invariant.0 (omega arith)).rack

-- its share stops within the plan
few : (c : In-loop-p)
    → get_or c.args.stops.now c.loop-p.p 0 ≤ length (plan (racks_of c.args.job) c.args.places.now)
few c =
    let l = c.loop-p in
    stop-few (racks_of c.args.job) c.args.places.now c.args.stops.now c.requires.2 l.p (at_bounds c.requires.0 l.invariant.0 (omega arith)).one

pub offset_bounds-stops-p : goal.offset_bounds-stops-p
offset_bounds-stops-p c = omega (arith, rack c)

pub bounds-stops-p : goal.bounds-stops-p
bounds-stops-p c = rack (goal.at.bounds-stops-p c).In-loop-p

pub overflow_cast-stop : goal.overflow_cast-stop
overflow_cast-stop c = omega (arith, few (goal.at.overflow_cast-stop c).In-loop-p, plan-few (racks_of c.args.job) c.args.places.now, c.requires.0.small)

pub put_hits-requires : goal.put_hits-requires
put_hits-requires c =
    let l = c.loop-p in
    let n = at_bounds c.requires.0 l.invariant.0 (omega arith) in record {
      low_in_bounds = (
        omega (arith, n.up, n.within, c.requires.1.long),
        omega (arith, c.requires.1.long, c.requires.0.small),
        free-fits _ c.free.ensures,
        omega arith,
        stop-up _ c.requires.0 _ c.requires.1 _ _ l.invariant.0 (omega arith) _ c.requires.2 _ _ _ l.invariant.1,
        omega (arith, few (goal.at.put_hits-requires c).In-loop-p, openings-long l.invariant.1, c.requires.3),
      );
      k_in_bounds = rw (marked _ _ c.free.ensures _ _) (open-enough _ c.requires.0 _ c.requires.1 _ _ l.invariant.0 (omega arith) _ c.requires.2 _ _ _ l.invariant.1);
    }

pub offset_bounds-job-p : goal.offset_bounds-job-p
offset_bounds-job-p c = omega (arith, rack (goal.at.offset_bounds-job-p c).In-loop-p)

pub bounds-job-p : goal.bounds-job-p
bounds-job-p c = rack (goal.at.bounds-job-p c).In-loop-p

pub overflow_cast-low : goal.overflow_cast-low
overflow_cast-low c = omega (arith, (at_bounds c.requires.0 c.loop-p.invariant.0 (omega arith)).small)

pub loop-p-preserved : goal.loop-p-preserved
loop-p-preserved c =
    let l = c.loop-p in (
      at_next c.requires.0 l.invariant.0 (omega arith),
      openings-more _ c.requires.0 _ c.requires.1 _ _ l.invariant.0 (omega arith) _ c.requires.2 _ _ _ l.invariant.1 _ (rw (marked _ _ c.free.ensures _ _) at c.put_hits.ensures),
    )

pub returns : goal.returns
returns c =
    let l = c.loop-p in
    let e : l.p ≡ length (racks_of c.args.job) = omega (arith, l.invariant.0.passed, sound-racks _ c.requires.0) in
    rw e at l.invariant.1.list
