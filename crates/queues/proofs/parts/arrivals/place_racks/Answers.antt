use native.Mathlib.Omega.{arith}
use mathlib.Core.Path.{◌≡◌}
use lib.ListN.{length-take}
use Rattle.racks.proofs.Passing.{Bounds, at_first, at_bounds, at_next}
use Rattle.queues.proofs.Placing.{placed-none, placed-more, rooms-counted}
use Rattle.queues.proofs.parts.arrivals.place_racks.Goals as goal
use Rattle.queues.proofs.parts.arrivals.place_racks.Goals.{In-loop-p}

-- the next rack, and where it ends
next : (c : In-loop-p) → Bounds c.args.job c.loop-p.p c.loop-p.low
next c = let l = c.loop-p in at_bounds c.requires.0 l.invariant.0 (omega (arith, l.invariant.0.passed))

pub loop-p-init : goal.loop-p-init
loop-p-init c = (at_first _, placed-none _ _ _ c.requires.2)

pub offset_bounds-job-p : goal.offset_bounds-job-p
offset_bounds-job-p c = omega (arith, (next c).rack)

pub bounds-job-p : goal.bounds-job-p
bounds-job-p c = (next c).rack

pub overflow_cast-low : goal.overflow_cast-low
overflow_cast-low c = let n = next (goal.at.overflow_cast-low c).In-loop-p in omega (arith, n.up, n.within, c.requires.0.small)

pub overflow_cast-high : goal.overflow_cast-high
overflow_cast-high c = let n = next (goal.at.overflow_cast-high c).In-loop-p in omega (arith, n.within, c.requires.0.small)

pub slice_bounds-count_free-count : goal.slice_bounds-count_free-count
slice_bounds-count_free-count c = let n = next (goal.at.slice_bounds-count_free-count c).In-loop-p in omega (arith, n.up, n.within, c.requires.1)

pub slice_bounds-count_free-start : goal.slice_bounds-count_free-start
slice_bounds-count_free-start c = let n = next (goal.at.slice_bounds-count_free-start c).In-loop-p in omega (arith, n.up, n.within, c.requires.1)

pub slice_bounds-count_free-end : goal.slice_bounds-count_free-end
slice_bounds-count_free-end c = let n = next (goal.at.slice_bounds-count_free-end c).In-loop-p in omega (arith, n.up, n.within, c.requires.1)

pub count_free-free-requires : goal.count_free-free-requires
count_free-free-requires c = let n = next (goal.at.count_free-free-requires c).In-loop-p in simp length-take (omega (arith, n.within, c.requires.0.small))

pub place_rack-requires : goal.place_rack-requires
place_rack-requires c = let n = next (goal.at.place_rack-requires c).In-loop-p in (c.loop-p.invariant.1.long, n.rack, omega (arith, n.up, n.within, c.requires.0.small))

pub loop-p-preserved : goal.loop-p-preserved
loop-p-preserved c = let l = c.loop-p in
    let n = next (goal.at.loop-p-preserved c).In-loop-p in (
      at_next c.requires.0 l.invariant.0 (omega arith),
      placed-more _ _ l.p l.low _ l.line _ n.rack l.invariant.0.low-is (rooms-counted _ _ l.p l.low _ _ n.one l.invariant.0.low-is n.ends n.up (omega (arith, n.within, c.requires.1)) c.count_free-free.ensures) c.place_rack.ensures l.invariant.1,
    )

pub returns : goal.returns
returns c = let l = c.loop-p in let e : l.p ≡ c.args.job.racks = omega (arith, l.invariant.0.passed) in rw e at l.invariant.1
