use mathlib.Core.Path.{refl}
use Rattle.std.proofs.lemmas.Result.{err_from_is_err_and}
use Rattle.mover.specs.parts.Moving.{moved_by}
use Rattle.moves.specs.Moves.{held}
use Rattle.tables.proofs.Refusals.{none_by}
use Rattle.carrying.proofs.Outcomes.{outcome-refused, outcome-done}
use Rattle.mover.proofs.parts.move_job.Goals as goal

pub returns-in_err-check_move : goal.returns-in_err-check_move
unfolding moved_by
returns-in_err-check_move c =
    let s = c.args in
    let p = err_from_is_err_and c.from_residual.result c.from_residual.ensures.1 in
    rw (p.1, p.2) (outcome-refused _ _ _ (held s.places.now s.cards.now) _ c.in_err-check_move.ensures.refusal_is)

pub move_card-requires : goal.move_card-requires
move_card-requires c =
    let n = c.in_ok-check_move.ensures in
    record {
      sized = n.sized refl;
      slots = ((n.slots refl).from_lt, (n.slots refl).to_lt);
    }

pub returns : goal.returns
unfolding moved_by
returns c =
    outcome-done _ _ _ _ _ (held _ _) c.of_moves.ensures c.move_card.ensures (none_by _ _ _ c.in_ok-check_move.ensures.refusal_is refl)
