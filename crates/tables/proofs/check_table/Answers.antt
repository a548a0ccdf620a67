use mathlib.Core.Path.{ap, ◌∙◌}
use Rattle.std.proofs.lemmas.Result.{err_from_is_err_and}
use Rattle.answers.specs.Answers.{answer, no_counts}
use Rattle.racks.proofs.Jobs.{of-sound}
use Rattle.tables.proofs.Capacities.{checked-racks, checked_by}
use Rattle.tables.proofs.check_table.Goals as goal

pub returns-in_err-job : goal.returns-in_err-job
returns-in_err-job c =
    let p = err_from_is_err_and c.from_residual.result c.from_residual.ensures.1 in
    rw (p.1, p.2) (checked-racks _ _ c.in_err-job.ensures _)

pub check_places-requires : goal.check_places-requires
check_places-requires c = of-sound _ _ c.in_ok-job.ensures

pub returns : goal.returns
returns c = ap (λ x. answer x no_counts) c.check_places.ensures.refusal_is ∙ checked_by _ _ c.in_ok-job.ensures _
