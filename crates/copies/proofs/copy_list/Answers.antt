use mathlib.Core.Path.{◌∙◌}
use Rattle.std.proofs.lemmas.Result.{err_from_is_err_and}
use Rattle.racks.proofs.Jobs.{of-sound}
use Rattle.copies.proofs.Copied.{copied_by_lem, copied-racks}
use Rattle.copies.proofs.copy_list.Goals as goal

pub returns-in_err-job : goal.returns-in_err-job
returns-in_err-job c =
    let p = err_from_is_err_and c.from_residual.result c.from_residual.ensures.1 in
    rw (p.1, p.2) (copied-racks _ _ c.in_err-job.ensures _ _)

pub copy_job-requires : goal.copy_job-requires
copy_job-requires c = of-sound _ _ c.in_ok-job.ensures

pub returns : goal.returns
returns c = c.copy_job.ensures ∙ copied_by_lem _ _ c.in_ok-job.ensures _ _
