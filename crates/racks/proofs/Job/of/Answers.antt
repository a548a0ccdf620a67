use mathlib.Core.Path.{sym, ap, ◌∙◌}
use native.Mathlib.Omega.{arith}
use Rattle.std.proofs.lemmas.Result.{err_from_is_err_and}
use Rattle.answers.specs.Answers.{placeless}
use Rattle.racks.specs.Racks.{of_caps}
use Rattle.racks.proofs.Caps.{length-caps, count-few, checks-1, checks-3, checks-0}
use Rattle.racks.proofs.Job.of.Goals as goal

pub returns-in_err-check_count : goal.returns-in_err-check_count
returns-in_err-check_count c =
    let p = err_from_is_err_and c.from_residual.result c.from_residual.ensures.1 in
    let e = c.in_err-check_count.ensures in
    rw (p.1, p.2) (e.1 ∙ ap placeless (checks-1 (of_caps c.args.caps.now) e.0))

pub check_sizes-requires : goal.check_sizes-requires
check_sizes-requires c = omega (arith, count-few (of_caps c.args.caps.now) c.in_ok-check_count.ensures, length-caps c.args.caps.now)

pub returns-in_err-check_sizes : goal.returns-in_err-check_sizes
returns-in_err-check_sizes c =
    let p = err_from_is_err_and c.from_residual-in_err-check_sizes.result c.from_residual-in_err-check_sizes.ensures.1 in
    let e = c.in_err-check_sizes.ensures in
    rw (p.1, p.2) (e.1 ∙ ap placeless (checks-3 (of_caps c.args.caps.now) c.in_ok-check_count.ensures e.0))

pub job_of-requires : goal.job_of-requires
job_of-requires c = sym (checks-0 (of_caps c.args.caps.now) c.in_ok-check_count.ensures c.in_ok-check_sizes.ensures)

pub returns : goal.returns
returns c = (sym (checks-0 (of_caps c.args.caps.now) c.in_ok-check_count.ensures c.in_ok-check_sizes.ensures), c.job_of.ensures)
