-- The phase plan by a job: its refusal, and that it is the capacities'. Assumes nothing.
use mathlib.Core.Path.{◌≡◌, refl, sym, ◌∙◌}
use mathlib.Core.List.{List, [], ◌∷◌}
use Prim.Native.Nat.{ℕ, ◌*◌, ◌≤◌, ◌<◌}
use native.Mathlib.Omega.{arith}
use lib.ListN.{length}
use borrow.Author.Tests.{lt-ltb, le-ltb}
use Rattle.counting.specs.Lists.{flat}
use Rattle.counting.proofs.Checks.{first-here, first-later, first-none, known_past}
use Rattle.counting.proofs.Stores.{length-flat}
use Rattle.std.specs.Prelude.{Err}
use Rattle.counting.specs.Checks.{first}
use Rattle.answers.specs.Answers.{Refusal, placeless, refusal_of, answered, moves_of, listed, listed_of}
use Rattle.answers.specs.declared.Refusal as given
use Rattle.racks.specs.Racks.{Rack, of_caps}
use Rattle.racks.specs.Numbers.{too_short, rack_checks}
use Rattle.racks.specs.Job.{racks_of, good_job}
use Rattle.racks.specs.declared.Job.{Job}
use Rattle.tables.specs.parts.Tables.{refusal_by, table_number}
use Rattle.tables.proofs.Refusals.{placeless_by}
use Rattle.tables.proofs.Capacities.{listed-racks, of_refusal}
use Rattle.plans.specs.Plan.{plan, plan_checks, planned}
use Rattle.planner.specs.parts.Planned.{plan_number, planned_by}

module _ (job : Job) (places lent : List ℕ) where
  module _ (z : table_number job places ≡ 0) where
    -- refused since the list is too short
    pub planned-short : length lent < 2 * length (plan (racks_of job) places) → placeless 13 ≡ refusal_by job places (plan_number job places lent)
    unfolding plan_number too_short
    planned-short l =
        placeless_by job places 13 _ (refl, refl)
        (sym (known_past (table_number job places) _ z ∙ first-here _ 13 [] (lt-ltb (length lent) (length (flat (plan (racks_of job) places))) (omega (arith, length-flat (plan (racks_of job) places))))))

    -- not refused
    pub planned-none : 2 * length (plan (racks_of job) places) ≤ length lent → placeless 0 ≡ refusal_by job places (plan_number job places lent)
    unfolding plan_number too_short
    planned-none l =
        placeless_by job places 0 _ (refl, refl)
        (sym
        (known_past (table_number job places) _ z
        ∙ first-later _ 13 [] (le-ltb (length lent) (length (flat (plan (racks_of job) places))) (omega (arith, length-flat (plan (racks_of job) places))))
        ∙ first-none))

-- a job made from capacities gives their plan
pub planned_by_lem : (caps : List ℕ) (job : Job) → (first (rack_checks (of_caps caps)) ≡ 0) × (job ≡ good_job (of_caps caps)) → (places lent : List ℕ) → planned_by job places lent ≡ planned (of_caps caps) places lent
unfolding planned_by plan_number planned plan_checks
planned_by_lem caps job m places lent =
    of_refusal caps job m places (λ (r : List Rack). (too_short lent (flat (plan r places)), 13) ∷ [])
    (λ (x : Refusal) (r : List Rack). listed x (moves_of (length (plan r places))) (flat (plan r places)) lent)

-- capacities that are refused give their refusal
pub planned-racks : (caps : List ℕ) (e : given.Refusal) → refusal_of e ≡ placeless (first (rack_checks (of_caps caps))) → (places lent : List ℕ) → listed_of (answered (Err e)) lent ≡ planned (of_caps caps) places lent
unfolding planned plan_checks
planned-racks caps e is places lent = listed-racks caps e is places ((too_short lent (flat (plan (of_caps caps) places)), 13) ∷ []) (moves_of (length (plan (of_caps caps) places))) (flat (plan (of_caps caps) places)) lent
