use mathlib.Core.Path.{◌∙◌}
use Rattle.std.proofs.lemmas.Result.{err_from_is_err_and}
use Rattle.racks.proofs.Jobs.{of-sound}
use Rattle.tables.proofs.Capacities.{of-sizes}
use Rattle.moves.specs.Moves.{held}
use Rattle.shuffler.proofs.Shuffles.{shuffled_by_lem, shuffled-sizes}
use Rattle.shuffler.proofs.shuffle_cards.Goals as goal

pub returns-in_err-job : goal.returns-in_err-job
returns-in_err-job c =
    let s = c.args in
    let p = err_from_is_err_and c.from_residual.result c.from_residual.ensures.1 in
    rw (p.1, p.2) (shuffled-sizes s.caps.now s.b _ c.in_err-job.ensures (held s.places.now s.cards.now))

pub shuffle_job-requires : goal.shuffle_job-requires
shuffle_job-requires c = of-sound _ _ (of-sizes _ _ _ c.in_ok-job.ensures c.args.places.now c.args.cards.now)

pub returns : goal.returns
returns c = c.shuffle_job.ensures ∙ shuffled_by_lem _ _ _ c.in_ok-job.ensures _
