use mathlib.Core.Path.{◌∙◌}
use Rattle.std.proofs.lemmas.Result.{err_from_is_err_and}
use Rattle.racks.proofs.Jobs.{of-spared}
use Rattle.tables.proofs.Capacities.{of-sizes}
use Rattle.moves.specs.Moves.{held}
use Rattle.runner.proofs.RanBy.{ran_by_lem, ran-sizes}
use Rattle.runner.proofs.whole_run.Goals as goal

pub returns-in_err-job : goal.returns-in_err-job
returns-in_err-job c =
    let s = c.args in
    let p = err_from_is_err_and c.from_residual.result c.from_residual.ensures.1 in
    rw (p.1, p.2) (ran-sizes s.caps.now s.b _ c.in_err-job.ensures (held s.places.now s.cards.now))

pub run_job-requires : goal.run_job-requires
run_job-requires c = of-spared _ _ (of-sizes _ _ _ c.in_ok-job.ensures c.args.places.now c.args.cards.now)

pub returns : goal.returns
returns c = c.run_job.ensures ∙ ran_by_lem _ _ _ c.in_ok-job.ensures _
