use native.Mathlib.Omega.{arith}
use mathlib.Core.Path.{◌≡◌, sym, ap, ◌∙◌}
use Prim.Native.Nat.{◌+◌}
use lib.ListN.{length}
use Rattle.racks.specs.Job.{racks_of}
use Rattle.racks.proofs.Jobs.{sound-racks}
use Rattle.racks.proofs.Passing.{at_first, at_bounds, at_next}
use Rattle.plans.proofs.Plans.{plan-few}
use Rattle.planner.proofs.Pairs.{pairs_up_to, up-to-none, up-to-all, up-to-few, up-to-long, target-bounded, target_at}
use Rattle.planner.proofs.parts.count_pairs.Goals as goal
use Rattle.planner.proofs.parts.count_pairs.Goals.{After-count_target-pairs}

pub loop-p-init : goal.loop-p-init
loop-p-init c = (at_first _, sym (ap length (up-to-none _ _)))

pub offset_bounds-job-p : goal.offset_bounds-job-p
offset_bounds-job-p c = omega (arith, (at_bounds c.requires.0 c.loop-p.invariant.0 (omega arith)).rack)

pub bounds-job-p : goal.bounds-job-p
bounds-job-p c = (at_bounds c.requires.0 c.loop-p.invariant.0 (omega arith)).rack

pub count_target-pairs-requires : goal.count_target-pairs-requires
count_target-pairs-requires c = target-bounded _ c.requires.0 _ c.requires.1 _ _ c.loop-p.invariant.0 (omega arith)

-- the pairs of one more target
added : (c : After-count_target-pairs)
    → c.loop-p.pairs + c.count_target-pairs.result ≡ length (pairs_up_to (racks_of c.args.job) c.args.places.now (c.loop-p.p + 1))
added c =
    let l = c.loop-p in
    omega (
      arith,
      l.invariant.1,
      c.count_target-pairs.ensures ∙ ap length (target_at _ c.requires.0 _ c.requires.1 l.p l.low l.invariant.0 (omega arith)),
      up-to-long (racks_of c.args.job) c.args.places.now l.p,
    )

pub overflow_add-pairs : goal.overflow_add-pairs
overflow_add-pairs c =
    omega (
      arith,
      added c,
      up-to-few (racks_of c.args.job) c.args.places.now (c.loop-p.p + 1) (omega (arith, sound-racks _ c.requires.0)),
      plan-few (racks_of c.args.job) c.args.places.now,
      c.requires.0.small,
    )

pub loop-p-preserved : goal.loop-p-preserved
loop-p-preserved c = (at_next c.requires.0 c.loop-p.invariant.0 (omega arith), added c)

pub returns : goal.returns
returns c =
    let l = c.loop-p in
    let e : l.p ≡ length (racks_of c.args.job) = omega (arith, l.invariant.0.passed, sound-racks _ c.requires.0) in
    l.invariant.1 ∙ rw e (ap length (up-to-all _ _))
