use Rattle.std.proofs.lemmas.Result.{err_from_is_err_and}
use Rattle.jobfile.proofs.Jobs.{job-refused, job-done}
use Rattle.jobfile.proofs.read_job.Goals as goal

pub returns-in_err-found : goal.returns-in_err-found
returns-in_err-found c =
    let p = err_from_is_err_and c.from_residual.result c.from_residual.ensures.1 in
    rw (p.1, p.2) (job-refused c.args.r _ c.args.caps.now c.args.places.now _ _ c.rest_of-file.ensures _ c.in_err-found.ensures)

pub returns : goal.returns
returns c =
    job-done c.args.r _ c.args.caps.now c.args.places.now _ _ c.rest_of-file.ensures _ c.card_bytes-cards.result c.in_ok-found.ensures (rw c.in_ok-found.was at c.card_bytes-cards.ensures)
