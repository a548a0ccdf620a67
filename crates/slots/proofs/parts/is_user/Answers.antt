use native.Mathlib.Omega.{arith}
use Prim.Native.Nat.{◌<◌}
use mathlib.Core.Path.{sym}
use Rattle.racks.specs.Job.{racks_of}
use Rattle.racks.proofs.Geometry.{user-none}
use Rattle.racks.proofs.Jobs.{sound-slots, sound-few}
use Rattle.slots.proofs.Lookups.{rack-one, looked-spare}
use Rattle.slots.proofs.parts.is_user.Goals as goal
use Rattle.slots.proofs.parts.is_user.Goals.{After-rack_of-p}

-- the slot's rack is one
rack : (c : After-rack_of-p) → c.rack_of-p.result < 64
rack c =
    omega (arith, sound-few _ c.requires, rack-one c.args.job c.requires c.args.g _ c.if-job-g.false c.rack_of-p.ensures)

pub returns-then-job-g : goal.returns-then-job-g
returns-then-job-g c = sym (user-none (racks_of c.args.job) c.args.g (omega (arith, sound-slots _ c.requires)))

pub offset_bounds-job-p : goal.offset_bounds-job-p
offset_bounds-job-p c = omega (arith, rack c)

pub bounds-job-p : goal.bounds-job-p
bounds-job-p c = omega (arith, rack c)

pub returns : goal.returns
returns c =
    looked-spare c.args.job c.requires c.args.g _ c.if-job-g.false c.rack_of-p.ensures
