-- What is known of the job of capacities whose table and cards are not refused. Assumes nothing.
use mathlib.Core.Path.{◌≡◌, sym, ◌∙◌, subst}
use mathlib.Core.List.{List}
use Prim.Native.Nat.{ℕ, ◌*◌}
use native.Mathlib.Decide.{ℕ_discrete}
use lib.ListN.{length}
use Rattle.counting.specs.Checks.{first}
use Rattle.counting.proofs.Checks.{first-append}
use Rattle.racks.specs.Racks.{Rack, of_caps, slots}
use Rattle.racks.specs.parts.Legal.{Legal, Spared}
use Rattle.racks.specs.Numbers.{rack_checks, size_checks, card_checks}
use Rattle.racks.specs.Job.{racks_of, good_job, Sound}
use Rattle.racks.specs.declared.Job.{Job}
use Rattle.racks.proofs.Caps.{sizes-few, sizes-racks}
use Rattle.racks.proofs.Jobs.{of-racks, of-sound, of-spared}
use Rattle.tables.specs.parts.Tables.{Racked, OpenCards}
use Rattle.tables.proofs.Tables.{cards_pass}

module _ (caps : List ℕ) (b : ℕ) (places cards : List ℕ) (z : first (card_checks (of_caps caps) b places cards) ≡ 0) where
  sizes-none : first (size_checks (of_caps caps) b) ≡ 0
  unfolding size_checks card_checks
  sizes-none = elim (ℕ_discrete (first (size_checks (of_caps caps) b)) 0) [
    | yes e ↦ e
    | no f ↦ absurd (f (sym (first-append (size_checks (of_caps caps) b) _ f) ∙ z))
  ]

  -- the capacities are in order
  pub job-good : first (rack_checks (of_caps caps)) ≡ 0
  job-good = sizes-racks (of_caps caps) b sizes-none

  module _ (job : Job) (is : job ≡ good_job (of_caps caps)) where
    -- the job is sound
    pub job-sound : Sound job
    job-sound = of-sound caps job (job-good, is)

    -- each rack has a spare
    pub job-spared : Spared (racks_of job)
    job-spared = (of-spared caps job (job-good, is)).1

    -- its racks are those of the capacities
    pub job-racks : racks_of job ≡ of_caps caps
    job-racks = of-racks caps job (job-good, is)

    -- it is accepted
    pub job_open : (racking : List ℕ) → Racked (racks_of job) racking → OpenCards job b places cards racking
    job_open racking f =
        let g = subst (λ (r : List Rack). Legal r places × (length cards ≡ slots r * b)) (sym job-racks) (cards_pass (of_caps caps) b places cards z) in
        record {
          table = record { sound = job-sound; legal = g.0; filled = f.filled; long = f.long };
          bytes = sizes-few (of_caps caps) b sizes-none;
          long = g.1;
        }
