-- The phase plan, by a job. Assumes nothing: these are definitions.
use Rattle.std.specs.Prelude.{List, [], ◌∷◌, ℕ, length}
use Rattle.counting.specs.Lists.{flat}
use Rattle.counting.specs.Checks.{first, known}
use Rattle.answers.specs.Answers.{moves_of, Listed, listed}
use Rattle.racks.specs.Numbers.{too_short}
use Rattle.racks.specs.Job.{racks_of}
use Rattle.racks.specs.declared.Job.{Job}
use Rattle.tables.specs.parts.Tables.{refusal_by, table_number}
use Rattle.plans.specs.Plan.{plan}

-- the number of the phase plan, by a job: that of the table, then 13
unfoldable pub plan_number : Job → List ℕ → List ℕ → ℕ
plan_number job places lent = first (known (table_number job places) ∷ (too_short lent (flat (plan (racks_of job) places)), 13) ∷ [])

-- the phase plan, by a job
unfoldable pub planned_by : Job → List ℕ → List ℕ → Listed
planned_by job places lent =
    let pairs = plan (racks_of job) places in
    listed (refusal_by job places (plan_number job places lent)) (moves_of (length pairs)) (flat pairs) lent
