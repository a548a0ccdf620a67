use mathlib.Core.Path.{◌≡◌}
use lib.ListN.{length}
use Rattle.racks.specs.Racks.{of_caps, base}
use Rattle.racks.proofs.Jobs.{Laid}
use Rattle.racks.proofs.parts.job_of.Given as goal

abbrev pub invariant-loop-p : goal.invariant-loop-p
invariant-loop-p l = (l.end ≡ base (of_caps l.caps) l.p) × (length l.spares ≡ 64) × (length l.ends ≡ 64) × Laid (of_caps l.caps) l.p l.spares l.ends
