use mathlib.Core.Path.{◌∙◌}
use Rattle.racks.proofs.Jobs.{of-sound}
use Rattle.tables.proofs.Capacities.{of-sizes}
use Rattle.moves.specs.Moves.{held}
use Rattle.mover.proofs.Moved.{moved_by_lem, moved-sizes}
use Rattle.mover.proofs.one_move.Goals as goal

pub move_job-requires : goal.move_job-requires
move_job-requires c =
    let made = rw c.in-Ok.is at c.job_for.ensures in
    of-sound _ _ (of-sizes _ _ _ made c.args.places.now c.args.cards.now)

pub returns-in-Ok : goal.returns-in-Ok
returns-in-Ok c = let made = rw c.in-Ok.is at c.job_for.ensures in c.move_job.ensures ∙ moved_by_lem _ _ _ made _ _

pub returns-in-Err : goal.returns-in-Err
returns-in-Err c =
    let s = c.args in
    moved-sizes s.caps.now s.b _ (rw c.in-Err.is at c.job_for.ensures) (held s.places.now s.cards.now) (s.from, s.to)
