use mathlib.Core.Path.{◌∙◌}
use Rattle.std.proofs.lemmas.Result.{err_from_is_err_and}
use Rattle.racks.proofs.Jobs.{of-sound}
use Rattle.planner.proofs.Planned.{planned_by_lem, planned-racks}
use Rattle.planner.proofs.phase_plan.Goals as goal

pub returns-in_err-job : goal.returns-in_err-job
returns-in_err-job c =
    let p = err_from_is_err_and c.from_residual.result c.from_residual.ensures.1 in
    rw (p.1, p.2) (planned-racks _ _ c.in_err-job.ensures _ _)

pub plan_job-requires : goal.plan_job-requires
plan_job-requires c = of-sound _ _ c.in_ok-job.ensures

pub returns : goal.returns
returns c = c.plan_job.ensures ∙ planned_by_lem _ _ c.in_ok-job.ensures _ _
