use native.Mathlib.Omega.{arith}
use mathlib.Core.Path.{◌≡◌}
use Rattle.racks.specs.Job.{racks_of}
use Rattle.racks.proofs.Jobs.{sound-racks, sound-spares, sound-start}
use Rattle.jobwriter.proofs.Files.{cap-at}
use Rattle.jobwriter.proofs.parts.cap_at.Goals as goal
use Rattle.jobwriter.proofs.parts.cap_at.Goals.{After-first_slot}
use Prim.Native.Nat.{◌+◌}
use lib.ListN.{get_or}
use Rattle.counting.specs.Lists.{each}
use Rattle.jobwriter.specs.Writing.{cap_of}

-- where the rack begins, with m_p more, its spares do
spares : (c : After-first_slot) → c.first_slot.result + get_or (each cap_of (racks_of c.args.job.now)) c.args.p 0 ≡ get_or c.args.job.now.spares c.args.p 0
spares c =
    let s = c.requires.0 in
    omega (arith, c.first_slot.ensures, cap-at (racks_of c.args.job.now) c.args.p (omega (arith, sound-racks _ s)), sound-start _ s c.args.p (omega (arith, sound-racks _ s)), sound-spares _ s c.args.p (omega (arith, sound-racks _ s)))

pub overflow_sub-result : goal.overflow_sub-result
overflow_sub-result c = omega (arith, spares c)

pub returns : goal.returns
returns c = omega (arith, spares c)
