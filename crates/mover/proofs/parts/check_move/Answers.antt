use mathlib.Core.Path.{refl, sym}
use Rattle.std.proofs.lemmas.Result.{err_from_is_err_and}
use Rattle.answers.proofs.Answers.{refuses}
use Rattle.moves.specs.Moves.{held}
use Rattle.tables.proofs.Tables.{cards-checked-number}
use Rattle.mover.proofs.Moved.{move-refused, move-ends}
use Rattle.mover.proofs.parts.check_move.Goals as goal

pub returns-in_err-check_cards : goal.returns-in_err-check_cards
returns-in_err-check_cards c =
    let s = c.args in
    let p = err_from_is_err_and c.from_residual.result c.from_residual.ensures.1 in
    rw (p.1, p.2) (move-refused s.job.now s.b (held s.places.now s.cards.now) (s.from, s.to) _ c.in_err-check_cards.ensures.refusal_is (refuses _))

pub check_ends-requires : goal.check_ends-requires
check_ends-requires c = (c.in_ok-check_cards.ensures.opened refl).table

pub returns : goal.returns
returns c =
    let s = c.args in
    let n = c.in_ok-check_cards.ensures in
    move-ends s.job.now s.b (held s.places.now s.cards.now) (s.from, s.to) _ (sym (cards-checked-number n)) _ (n.opened refl) _ refl c.check_ends.ensures
