use native.Mathlib.Omega.{arith}
use mathlib.Core.Path.{◌≡◌, ◌∙◌}
use Prim.Native.Nat.{suc, ◌+◌, ◌<◌}
use lib.ListN.{get_or}
use Rattle.racks.specs.Racks.{base}
use Rattle.racks.specs.Job.{racks_of}
use Rattle.racks.proofs.Jobs.{sound-racks, sound-count, sound-ends}
use Rattle.counting.proofs.Tests.{bit-code}
use Rattle.tables.proofs.Fills.{Ended, ended-none, ended-more, ended-all}
use Rattle.tables.proofs.parts.rack_of.Goals as goal
use Rattle.tables.proofs.parts.rack_of.Goals.{After-from-rack, In-loop-p}

-- there is one more rack
next : (c : In-loop-p) → c.loop-p.p < 64
next c = omega (arith, sound-count _ c.requires)

-- where it ends
end : (c : After-from-rack) → get_or c.args.job.ends c.loop-p.p 0 ≡ base (racks_of c.args.job) (suc c.loop-p.p)
end c = sound-ends c.args.job c.requires c.loop-p.p (omega (arith, sound-racks _ c.requires))

-- it is counted
more : (c : After-from-rack) → Ended (racks_of c.args.job) c.args.g (c.loop-p.p + 1) (c.loop-p.rack + c.from-rack.result)
more c = let l = c.loop-p in ended-more _ _ l.p l.rack _ _ l.invariant (end c) (c.from-rack.ensures ∙ bit-code _)

pub loop-p-init : goal.loop-p-init
loop-p-init c = ended-none _ _

pub offset_bounds-job-p : goal.offset_bounds-job-p
offset_bounds-job-p c = omega (arith, next c)

pub bounds-job-p : goal.bounds-job-p
bounds-job-p c = next c

pub overflow_add-rack : goal.overflow_add-rack
overflow_add-rack c = omega (arith, next (goal.at.overflow_add-rack c).In-loop-p, (more c).few)

pub loop-p-preserved : goal.loop-p-preserved
loop-p-preserved c = more c

pub overflow_cast-result : goal.overflow_cast-result
overflow_cast-result c = omega (arith, c.loop-p.invariant.few, sound-count _ c.requires)

pub returns : goal.returns
returns c =
    let l = c.loop-p in
    ended-all _ _ _ _ (omega (arith, sound-racks _ c.requires)) l.invariant
