use native.Mathlib.Omega.{arith}
use Rattle.racks.specs.Job.{racks_of}
use Rattle.racks.proofs.Jobs.{sound-slots, slots-few}
use Rattle.plans.proofs.Plans.{plan-few}
use Rattle.spans.proofs.Found.{free-fits}
use Rattle.planner.proofs.Pairs.{free-covers, free-few}
use Rattle.planner.proofs.parts.most_pairs.Goals as goal

pub overflow_cast-job : goal.overflow_cast-job
overflow_cast-job c = omega (arith, slots-few _ c.requires.0)

pub look-free-requires : goal.look-free-requires
look-free-requires c = (omega (arith, sound-slots _ c.requires.0, c.requires.1.long), free-fits _ c.free.ensures)

pub returns-then-most-room : goal.returns-then-most-room
returns-then-most-room c =
    let m = c.free.ensures in
    let n = sound-slots _ c.requires.0 in
    let e = c.look-free.ensures in
    record {
      covers = free-covers _ _ _ m _ n _ e;
      few = omega (arith, free-few (racks_of c.args.job) c.args.places.now _ m _ n _ e, c.requires.0.small);
      exact = λ h. absurd (omega arith);
    }

pub returns : goal.returns
returns c =
    let e = c.count_pairs.ensures in
    record {
      covers = omega (arith, e);
      few = omega (arith, e, plan-few (racks_of c.args.job) c.args.places.now, c.requires.0.small);
      exact = λ h. e;
    }
