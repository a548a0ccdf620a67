use native.Mathlib.Omega.{arith}
use mathlib.Core.Path.{◌≡◌}
use Prim.Native.Nat.{◌+◌, ◌*◌, ◌≤◌, min}
use lib.ListN.{length}
use Rattle.spans.specs.parts.Spans.{RangeFits}
use Rattle.planner.specs.parts.Targets.{opens_of}
use Rattle.spans.proofs.Spans.{put-long, put_up}
use Rattle.spans.proofs.Found.{rack-fits, free-fits}
use Rattle.planner.proofs.Targets.{opens-here, target_up, target-enough, target-put}
use Rattle.planner.proofs.parts.targets.put_target.Goals as goal
use Rattle.planner.proofs.parts.targets.put_target.Goals.{After-of-range, After-min-stop}

pub look-free-requires : goal.look-free-requires
look-free-requires c = (omega (arith, c.requires.0.up, c.requires.0.within), free-fits _ c.free.ensures)

-- the rack's slots are a range that fits
fits : (c : After-of-range) → RangeFits c.of-range.result
fits c = rack-fits _ _ _ c.of-range.ensures c.requires.0.up (omega (arith, c.requires.0.within, c.requires.0.small))

-- the pairs end where its free slots do, or the list
stop_is : (c : After-min-stop) → c.min-stop.result ≡ min (c.args.k + length (opens_of c.args.places.now c.args.first c.args.end)) c.args.most
stop_is c = rw (opens-here _ _ _ _ c.free.ensures _ c.look-free.ensures) at c.min-stop.ensures

up : (c : After-min-stop) → c.args.k ≤ c.min-stop.result
up c = target_up _ _ _ _ _ _ (stop_is c) c.requires.1

room : (c : After-min-stop) → 2 * c.min-stop.result ≤ length c.args.lent.now
room c = omega (arith, c.min-stop.ensures, c.requires.2)

pub put_span-below-requires : goal.put_span-below-requires
put_span-below-requires c = (
  omega arith,
  record { within = omega (arith, c.requires.0.up, c.requires.0.within); small = c.requires.0.small; fits = fits (goal.at.put_span-below-requires c).After-of-range; room = room (goal.at.put_span-below-requires c).After-min-stop },
  up (goal.at.put_span-below-requires c).After-min-stop,
)

pub put_span-above-requires : goal.put_span-above-requires
put_span-above-requires c =
    let p = c.put_span-below.ensures in (
      c.requires.0.within,
      record {
        within = omega (arith, c.requires.0.within);
        small = c.requires.0.small;
        fits = fits (goal.at.put_span-above-requires c).After-of-range;
        room = omega (arith, put-long p, room (goal.at.put_span-above-requires c).After-min-stop);
      },
      omega (arith, put_up _ _ _ _ (up (goal.at.put_span-above-requires c).After-min-stop) p, c.min-stop.ensures),
    )

pub put_hits-requires : goal.put_hits-requires
put_hits-requires c =
    let p = c.put_span-below.ensures in
    let q = c.put_span-above.ensures in record {
      low_in_bounds = (
        omega (arith, c.requires.0.up, c.requires.0.within),
        omega (arith, c.requires.0.small),
        free-fits _ c.free-2.ensures,
        omega arith,
        omega (arith, p.next-is, q.next-is),
        omega (arith, put-long p, put-long q, room (goal.at.put_hits-requires c).After-min-stop, put_up _ _ _ _ (put_up _ _ _ _ (up (goal.at.put_hits-requires c).After-min-stop) p) q),
      );
      k_in_bounds = target-enough _ _ _ _ _ _ (stop_is (goal.at.put_hits-requires c).After-min-stop) c.requires.1 _ c.of-range.ensures _ _ _ _ _ p q c.requires.0.up c.requires.0.within _ c.free-2.ensures;
    }

pub returns : goal.returns
returns c =
    target-put _ _ _ _ _ _ (stop_is (goal.at.returns c).After-min-stop) c.requires.1 _ c.of-range.ensures _ _ _ _ _ c.put_span-below.ensures c.put_span-above.ensures c.requires.0.up c.requires.0.within _ c.free-2.ensures _
    c.put_hits.ensures
