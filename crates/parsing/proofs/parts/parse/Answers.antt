-- `parsing::parts::parse` meets its contract. Assumes nothing.
use mathlib.Core.Path.{refl, sym}
use native.Mathlib.Omega.{arith}
use lib.Seq.{length-take-le}
use Rattle.std.proofs.lemmas.Result.{err_from_is_err_and}
use Rattle.parsing.proofs.Files.{head-good, job-sound, want-small, parsed-head, parsed-table, parsed-end, parsed-done}
use Rattle.parsing.proofs.parts.parse.Goals as goal

pub returns-in_err-head : goal.returns-in_err-head
returns-in_err-head c =
    let p = err_from_is_err_and c.from_residual.result c.from_residual.ensures.1 in
    let h = c.in_err-head.ensures in
    rw (p.1, p.2) (parsed-head c.args.file.now _ _ (h.long, c.requires.1) _ _ h)

pub slice_bounds-job_of-end : goal.slice_bounds-job_of-end
slice_bounds-job_of-end c = let h = c.in_ok-head.ensures in sym (length-take-le _ _ (omega (arith, h.headed.few, h.long)))

pub job_of-job-requires : goal.job_of-job-requires
job_of-job-requires c = head-good c.args.file.now _ _ c.in_ok-head.ensures.headed

pub read_table-requires : goal.read_table-requires
read_table-requires c = (job-sound c.args.file.now _ _ c.in_ok-head.ensures.headed _ c.job_of-job.ensures, c.requires.1)

pub returns-in_err-start : goal.returns-in_err-start
returns-in_err-start c =
    let p = err_from_is_err_and c.from_residual-in_err-start.result c.from_residual-in_err-start.ensures.1 in
    let h = c.in_ok-head.ensures in
    let t = c.in_err-start.ensures in
    rw (p.1, p.2) (parsed-table c.args.file.now _ _ (h.long, t.long) _ _ h _ c.job_of-job.ensures _ t)

pub overflow_mul-job : goal.overflow_mul-job
overflow_mul-job c = omega (arith, want-small c.args.file.now _ _ c.in_ok-head.ensures.headed _ c.job_of-job.ensures)

pub returns-in_err-check_end : goal.returns-in_err-check_end
returns-in_err-check_end c =
    let p = err_from_is_err_and c.from_residual-in_err-check_end.result c.from_residual-in_err-check_end.ensures.1 in
    let h = c.in_ok-head.ensures in
    let t = c.in_ok-start.ensures in
    rw (p.1, p.2) (parsed-end c.args.file.now _ _ (h.long, t.long) _ _ h _ c.job_of-job.ensures _ t _ c.in_err-check_end.ensures)

pub returns : goal.returns
returns c =
    let h = c.in_ok-head.ensures in
    let t = c.in_ok-start.ensures in
    parsed-done c.args.file.now _ _ (h.long, t.long) _ _ h _ c.job_of-job.ensures _ t refl c.in_ok-check_end.ensures
