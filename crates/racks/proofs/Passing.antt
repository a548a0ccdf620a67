-- A pass over the racks of a job, from each one's first slot to its end, as the code reads them. Assumes nothing.
use mathlib.Core.Path.{◌≡◌, sym, ap, ◌∙◌}
use Prim.Native.Nat.{ℕ, suc, ◌+◌, ◌≤◌, ◌<◌}
use native.Mathlib.Omega.{arith}
use native.Mathlib.Numerals.{add-one}
use lib.ListN.{length, get_or}
use Rattle.racks.specs.Racks.{base, slots, spare_of}
use Rattle.racks.specs.Job.{racks_of, Sound}
use Rattle.racks.specs.declared.Job.{Job}
use Rattle.racks.proofs.Geometry.{base-zero, base_mono, end_le, spare-end}
use Rattle.racks.proofs.Jobs.{sound-racks, sound-spares, sound-ends, sound-count, sound-behind}

-- rack p is next, and begins at slot low
pub record At (job : Job) (p low : ℕ) : Type 0 where
  pub passed : p ≤ job.racks
  pub low-is : low ≡ base (racks_of job) p

-- rack p, which begins at slot low: where its spares begin and where it ends
pub record Bounds (job : Job) (p low : ℕ) : Type 0 where
  pub rack : p < 64
  pub one : p < length (racks_of job)
  pub spares : get_or job.spares p 0 ≡ spare_of (racks_of job) p
  pub ends : get_or job.ends p 0 ≡ base (racks_of job) (suc p)
  pub up : low ≤ get_or job.ends p 0
  pub user-up : get_or job.spares p 0 ≤ get_or job.ends p 0
  pub within : get_or job.ends p 0 ≤ slots (racks_of job)
  pub small : get_or job.ends p 0 ≤ 4096

-- the first rack begins at slot 0
pub at_first : (job : Job) → At job 0 0
at_first job = record { passed = omega arith; low-is = sym (base-zero (racks_of job)) }

module _ {job : Job} (s : Sound job) {p low : ℕ} (a : At job p low) where
  -- there is one more rack
  pub at_bounds : p < job.racks → Bounds job p low
  at_bounds l =
      let m : p < length (racks_of job) = omega (arith, sound-racks job s) in
      let x : get_or job.ends p 0 ≡ base (racks_of job) (suc p) = sound-ends job s p m in
      let y : get_or job.spares p 0 ≡ spare_of (racks_of job) p = sound-spares job s p m in
      record {
        rack = omega (arith, sound-count job s);
        one = m;
        spares = y;
        ends = x;
        up = omega (arith, x, a.low-is, base_mono (racks_of job) p (suc p) (omega arith));
        user-up = omega (arith, x, y, spare-end (racks_of job) p);
        within = omega (arith, x, end_le (racks_of job) p m);
        small = omega (arith, x, end_le (racks_of job) p m, s.small);
      }

  -- and the next begins where it ends
  pub at_next : p < job.racks → At job (p + 1) (get_or job.ends p 0)
  at_next l = record { passed = omega arith; low-is = (at_bounds l).ends ∙ ap (base (racks_of job)) (sym (add-one p)) }

  -- behind the last rack: as many slots as there are
  pub at-behind : p ≡ job.racks → low ≡ slots (racks_of job)
  at-behind e = sound-behind job s p low e a.low-is
