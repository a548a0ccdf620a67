-- A slot's kind, looked up by its rack. Assumes nothing.
use mathlib.Core.Path.{◌≡◌, ap, sym, ◌∙◌}
use Prim.Native.Nat.{ℕ, ◌<◌}
use native.Mathlib.Omega.{arith}
use lib.Dec.{ltb}
use lib.ListN.{length, get_or}
use Rattle.racks.specs.Racks.{slots, rack_of, spare_of, is_user}
use Rattle.racks.specs.Job.{racks_of, Sound}
use Rattle.racks.specs.declared.Job.{Job}
use Rattle.racks.proofs.Geometry.{rack_lt, user-is}
use Rattle.racks.proofs.Jobs.{sound-slots, sound-spares}

-- rack p is slot g's
module _ (job : Job) (s : Sound job) (g p : ℕ) (l : g < job.slots) (e : p ≡ rack_of (racks_of job) g) where
  slot : g < slots (racks_of job)
  slot = omega (arith, sound-slots job s)

  pub rack-one : p < length (racks_of job)
  rack-one = omega (arith, e, rack_lt (racks_of job) g slot)

  pub looked-spare : ltb g (get_or job.spares p 0) ≡ is_user (racks_of job) g
  looked-spare = ap (ltb g) (sound-spares job s p rack-one ∙ ap (spare_of (racks_of job)) e) ∙ sym (user-is (racks_of job) g slot)
